pub mod Inspects
