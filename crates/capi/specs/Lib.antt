pub mod Convention
