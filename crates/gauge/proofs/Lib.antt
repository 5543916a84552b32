pub mod GaugeLaws
