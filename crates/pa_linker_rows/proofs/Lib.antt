pub mod Linkability
