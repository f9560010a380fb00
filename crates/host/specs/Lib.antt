pub mod Exchange
