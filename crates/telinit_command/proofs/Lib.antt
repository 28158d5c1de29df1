pub mod FreeLine
