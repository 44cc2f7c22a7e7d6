-- The definitions of the settings of all plugins.
pub mod Plugins
pub mod Items
