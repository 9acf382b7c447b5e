pub mod CountLaws
pub mod HoldsLaws
pub mod Laws
pub mod MadeLaws
pub mod Map
pub mod Moved
pub mod Names
pub mod Sound
