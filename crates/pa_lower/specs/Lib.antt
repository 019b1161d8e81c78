pub mod Temporaries
pub mod Operations
pub mod Expressions
pub mod Statements
pub mod Programs
pub mod Sources
