-- The definitions of what is said of a plugin.
pub mod PluginEntry
