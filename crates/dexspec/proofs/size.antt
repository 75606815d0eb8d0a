-- A canonical file has at most as many bytes as it weighs.
pub mod SizeSums
pub mod SizeItems
pub mod SizeCode
pub mod SizeClass
pub mod SizeSections
pub mod SizeClasses
pub mod SizeFile
