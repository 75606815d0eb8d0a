use Rattle.dexlisting.proofs.law.Listings.{full_lines_are_read_back, full_listings_are_read_back, different_classes_have_different_lines, different_files_have_different_listings}
use Rattle.dexlisting.proofs.read_back.full_listing_law.Goals as goal

pub returns : goal.returns
returns c = record {
  classes = full_lines_are_read_back;
  lists = full_listings_are_read_back;
  different_classes = different_classes_have_different_lines;
  different_files = different_files_have_different_listings;
}
