pub mod Insts
