pub mod Alone
pub mod AnyEnd
pub mod ConsoleAlone
pub mod ConsolePrivate
pub mod ControllerAlone
pub mod ControllerPrivate
pub mod Private
