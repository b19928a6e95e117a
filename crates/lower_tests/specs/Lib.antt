pub mod Grid
