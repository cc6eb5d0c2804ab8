pub mod StructParts
