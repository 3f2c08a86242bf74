pub mod Program
pub mod Returns
