-- Full listings of well-formed classes are read back.
use Rattle.dexspec.proofs.Common.{◌≡◌, ℕ, List, [], ◌++◌, Option, Some, None, refl, sym, ap, subst, ◌∙◌, codes, append-nil, flat_map, All, AllByRecursion, Contains}
use Rattle.std.specs.FinMap as finite
use Rattle.dexspec.specs.Texts.{Text}
use Rattle.dexspec.specs.Classes.{Body, Definition}
use Rattle.dexspec.specs.Files.{Collection, definitions, IsMember}
use Rattle.dexspec.specs.Depth.{in_class_order}
use Rattle.dexspec.specs.WellFormed.{IsWellFormed, AreWellFormed}
use Rattle.dexspec.proofs.merge.Collections.{definitions-are}
use Rattle.dexspec.proofs.merge.SymbolOrders.{text_total, text_exact}
use Rattle.dexspec.proofs.normal.ClassOrder.{definitions-distinct}
use Rattle.dexspec.proofs.normal.ClassPlaces.{in_class_order-only, in_class_order-has}
use Rattle.dexspec.proofs.wellformed.FormedRows.{all_from}
use Rattle.dexspec.proofs.wellformed.FormedCode.{denoted_well_formed}
use Rattle.dexflags.specs.Flags.{OfClass, flags_text}
use Rattle.dexout.specs.Printed.{shown}
use Rattle.dexlisting.specs.Listing.{own_line}
use Rattle.dexlisting.specs.FullListing.{text_or_dash, full_class_lines, full_listing_of}
use Rattle.dexlisting.specs.Laws.{FullLinesAreReadBack, FullListingsAreReadBack, IsFileThatDenotes, DifferentClassesHaveDifferentLines, DifferentFilesHaveDifferentListings}
use Rattle.dexlisting.proofs.law.Reads.{Reads, Lacks, reads_lines}
use Rattle.dexlisting.proofs.law.Lists.{each_from_all}
use Rattle.dexlisting.proofs.law.ClassParts.{interface_part}
use Rattle.dexlisting.proofs.law.Classes.{reads_class}

-- the lines of a class
pub full_lines_are_read_back : FullLinesAreReadBack
full_lines_are_read_back d e is_d is_e same = (reads_class.read d e [] [] is_d is_e refl refl (append-nil (full_class_lines d) ∙ same ∙ sym (append-nil (full_class_lines e)))).0

-- the lines of classes, in front of what does not begin as they do
reads_classes : Reads (AllByRecursion IsWellFormed) (λ r. Lacks (codes "  ") r × Lacks (codes "class ") r) (flat_map full_class_lines)
unfolding full_class_lines own_line
reads_classes = reads_lines (codes "class ") (λ d. (shown d.0 ++ (codes " flags=" ++ (flags_text OfClass d.1.flags ++ (codes " super=" ++ (text_or_dash shown d.1.superclass ++ codes "\n"))))) ++ interface_part d.0 d.1)
    (λ d. refl) (λ r. refl) reads_class

-- classes of a listing
pub full_listings_are_read_back : FullListingsAreReadBack
full_listings_are_read_back D E is_D is_E same =
    (reads_classes.read D E [] [] (each_from_all IsWellFormed D is_D) (each_from_all IsWellFormed E is_E) (refl, refl) (refl, refl)
    (append-nil (flat_map full_class_lines D) ∙ same ∙ sym (append-nil (flat_map full_class_lines E)))).0

-- ---- collections

-- the classes of a listing are well formed
ordered_formed : (K : Collection) → AreWellFormed (definitions K) → All IsWellFormed (in_class_order (definitions K))
ordered_formed K are = all_from IsWellFormed (in_class_order (definitions K)) (λ d c. are d (in_class_order-only (definitions K) d c))

-- a member is among the classes of a listing
among : (K : Collection) (name : Text) (c : Body) → IsMember K name c → Contains (in_class_order (definitions K)) (name, c)
among K name c m = in_class_order-has (definitions K) (name, c) (definitions-distinct K) ((definitions-are K name c).0 m)

-- and each class of a listing is a member
member : (K : Collection) (name : Text) (c : Body) → Contains (in_class_order (definitions K)) (name, c) → IsMember K name c
member K name c k = (definitions-are K name c).1 (in_class_order-only (definitions K) (name, c) k)

-- options with equal values are equal
same_option : {X : Type 0} (x y : Option X) → ((v : X) → x ≡ Some v → y ≡ Some v) → ((v : X) → y ≡ Some v → x ≡ Some v) → x ≡ y
same_option None None f g = refl
same_option None (Some w) f g = g w refl
same_option (Some v) y f g = sym (f v refl)

-- collections with the same classes in order are the same
same_ordered : (K L : Collection) → in_class_order (definitions K) ≡ in_class_order (definitions L) → K ≡ L
same_ordered K L e =
    finite.same_map text_total text_exact K L (λ name. same_option (finite.get K name) (finite.get L name)
    (λ c m. member L name c (subst (λ (D : List Definition). Contains D (name, c)) e (among K name c m)))
    (λ c m. member K name c (subst (λ (D : List Definition). Contains D (name, c)) (sym e) (among L name c m))))

-- collections of well-formed classes with the same full listing are the same
same_listing : (K L : Collection) → AreWellFormed (definitions K) → AreWellFormed (definitions L) → full_listing_of [] K ≡ full_listing_of [] L → K ≡ L
unfolding full_listing_of
same_listing K L is_K is_L same =
    same_ordered K L (full_listings_are_read_back (in_class_order (definitions K)) (in_class_order (definitions L)) (ordered_formed K is_K) (ordered_formed L is_L) same)

-- ---- files

-- the classes of a file are well formed
file_formed : (b : List ℕ) (K : Collection) → IsFileThatDenotes b K → AreWellFormed (definitions K)
file_formed b K is = denoted_well_formed b is.bytes is.accepted K is.denotes

-- classes of files
pub different_classes_have_different_lines : DifferentClassesHaveDifferentLines
different_classes_have_different_lines b c K L is_b is_c name x y member_x member_y different same =
    let formed_x = file_formed b K is_b (name, x) ((definitions-are K name x).0 member_x) in
    let formed_y = file_formed c L is_c (name, y) ((definitions-are L name y).0 member_y) in
    different (ap (λ (d : Definition). d.1) (full_lines_are_read_back (name, x) (name, y) formed_x formed_y same))

-- files
pub different_files_have_different_listings : DifferentFilesHaveDifferentListings
different_files_have_different_listings b c K L is_b is_c different same = different (same_listing K L (file_formed b K is_b) (file_formed c L is_c) same)
