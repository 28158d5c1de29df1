pub mod FreeLines
