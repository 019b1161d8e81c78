-- The numbers of mach-o/loader.h, mach/machine.h and mach/vm_prot.h that an image has, under their names there in lower case.
use Rattle.std.specs.Prelude.{ℕ}

-- ---- mach_header_64

abbrev pub mh_magic_64 : ℕ
mh_magic_64 = 0xfeedfacf

abbrev pub cpu_type_arm64 : ℕ
cpu_type_arm64 = 0x0100000c

abbrev pub cpu_subtype_arm64e : ℕ
cpu_subtype_arm64e = 2

-- file types

abbrev pub mh_execute : ℕ
mh_execute = 2

abbrev pub mh_dylib : ℕ
mh_dylib = 6

-- flags

abbrev pub mh_noundefs : ℕ
mh_noundefs = 1

abbrev pub mh_dyldlink : ℕ
mh_dyldlink = 4

abbrev pub mh_twolevel : ℕ
mh_twolevel = 0x80

abbrev pub mh_pie : ℕ
mh_pie = 0x200000

-- ---- the bytes of the structures

abbrev pub mach_header_64 : ℕ
mach_header_64 = 32

-- a command's number and its size, with which each of the next begins
abbrev pub load_command : ℕ
load_command = 8

abbrev pub segment_command_64 : ℕ
segment_command_64 = 72

abbrev pub section_64 : ℕ
section_64 = 80

abbrev pub linkedit_data_command : ℕ
linkedit_data_command = 16

abbrev pub symtab_command : ℕ
symtab_command = 24

abbrev pub entry_point_command : ℕ
entry_point_command = 24

abbrev pub dylib_command : ℕ
dylib_command = 24

-- ---- where fields stand in their structures

-- size of section_64
abbrev pub section_size : ℕ
section_size = 40

-- datasize of linkedit_data_command
abbrev pub data_size : ℕ
data_size = 12

-- nsyms and strsize of symtab_command
abbrev pub symbol_count : ℕ
symbol_count = 12

abbrev pub strings_size : ℕ
strings_size = 20

-- ---- load commands; those that dyld has to know have the highest bit

abbrev pub lc_symtab : ℕ
lc_symtab = 2

abbrev pub lc_load_dylib : ℕ
lc_load_dylib = 0xc

abbrev pub lc_id_dylib : ℕ
lc_id_dylib = 0xd

abbrev pub lc_segment_64 : ℕ
lc_segment_64 = 0x19

abbrev pub lc_main : ℕ
lc_main = 0x80000028

abbrev pub lc_dyld_chained_fixups : ℕ
lc_dyld_chained_fixups = 0x80000034

-- ---- rights of segments

abbrev pub vm_prot_none : ℕ
vm_prot_none = 0

abbrev pub vm_prot_read : ℕ
vm_prot_read = 1

abbrev pub vm_prot_write : ℕ
vm_prot_write = 2

abbrev pub vm_prot_execute : ℕ
vm_prot_execute = 4

-- ---- attributes of sections

abbrev pub s_attr_some_instructions : ℕ
s_attr_some_instructions = 0x400

abbrev pub s_attr_pure_instructions : ℕ
s_attr_pure_instructions = 0x80000000
