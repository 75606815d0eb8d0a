-- A listing in one of two details: the short one, and the full one.
use Rattle.std.specs.Prelude.{ℕ, Bool, List, []}
use Rattle.dexspec.specs.Classes.{Definition}
use Rattle.dexspec.specs.Files.{Collection}
use Rattle.dexlisting.specs.declared.listing.Detail.{Detail}
use Rattle.dexlisting.specs.declared.listing.Detail.TheVariants.{Short, Full}
use Rattle.dexlisting.specs.Listing.{class_lines, listing, listing_of}
use Rattle.dexlisting.specs.FullListing.{full_class_lines, full_listing_of}

-- the lines of a class
abbrev pub lines_in : Detail → Definition → List ℕ
lines_in Short d = class_lines d
lines_in Full d = full_class_lines d

-- the listing of all classes
abbrev pub listing_in : Detail → Collection → List ℕ
listing_in Short K = listing K
listing_in Full K = full_listing_of [] K

-- the listing of the classes that the flags choose
abbrev pub listing_in_of : Detail → List Bool → Collection → List ℕ
listing_in_of Short flags K = listing_of flags K
listing_in_of Full flags K = full_listing_of flags K
