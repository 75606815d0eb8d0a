-- The lines of tries and their handlers are read back.
use Rattle.dexspec.proofs.Common.{ℕ, ◌<◌, ◌^◌, List, [], ◌++◌, Option, Some, None, refl, codes, flat_map, option_map_or, AllByRecursion}
use Rattle.dexspec.specs.Code.{Catch, Handler, Try}
use Rattle.dexout.specs.Printed.{shown, count_text, place_text}
use Rattle.dexlisting.specs.FullListing.{catch_line, catch_all_line, try_lines}
use Rattle.dexlisting.proofs.law.Reads.{Reads, Anything, Lacks, IfAny, reads_words, reads_closed, reads_weaker, reads_lines, reads_optional}
use Rattle.dexlisting.proofs.law.Parts.{reads_by, reads_both, lacks_more}
use Rattle.dexlisting.proofs.law.Numbers.{reads_place, reads_count}
use Rattle.dexlisting.proofs.law.Types.{KnownType, reads_type}

-- a known type, and an address
abbrev pub KnownCatch : Catch → Type 0
KnownCatch c = KnownType c.type × (c.address < 2 ^ 64)

-- catches, and a catch-all address
abbrev pub KnownHandler : Handler → Type 0
KnownHandler h = AllByRecursion KnownCatch h.catches × IfAny (λ address. address < 2 ^ 64) h.catch_all

-- numbers, and a handler
abbrev pub KnownTry : Try → Type 0
KnownTry t = (t.start < 2 ^ 64) × ((t.count < 2 ^ 64) × KnownHandler t.handler)

-- the line of a type that is caught
reads_catch : Reads KnownCatch Anything catch_line
unfolding catch_line
reads_catch = reads_by (λ c. (c.type, c.address)) (λ c d e i. record { type = (e i).0; address = (e i).1 })
    (reads_words (codes "      catch ") (reads_both reads_type (λ y r g f. tt) (reads_words (codes " ") (reads_closed (codes "\n") (λ r f. refl) reads_place))))

-- the line of the other address
reads_catch_all : Reads (λ (address : ℕ). address < 2 ^ 64) Anything catch_all_line
unfolding catch_all_line
reads_catch_all = reads_words (codes "      catch-all ") (reads_closed (codes "\n") (λ r f. refl) reads_place)

-- what follows the types that are caught
after_catches : (y : Option ℕ) (r : List ℕ) → Lacks (codes "      ") r → Lacks (codes "      catch ") (option_map_or catch_all_line y [] ++ r)
unfolding catch_all_line
after_catches None r l = lacks_more (codes "      ") (codes "catch ") r l
after_catches (Some address) r l = refl

-- the lines of a handler
pub reads_handler : Reads KnownHandler (Lacks (codes "      ")) (λ h. flat_map catch_line h.catches ++ option_map_or catch_all_line h.catch_all [])
unfolding catch_line catch_all_line
reads_handler = reads_by (λ h. (h.catches, h.catch_all)) (λ h k e i. record { catches = (e i).0; catch_all = (e i).1 })
    (reads_both (reads_lines (codes "      catch ") (λ c. shown c.type ++ (codes " " ++ (place_text c.address ++ codes "\n"))) (λ c. refl) (λ r. tt) reads_catch)
    (λ y r g l. (tt, after_catches y r l))
    (reads_weaker (λ x g. g) (λ r l. (tt, lacks_more (codes "      ") (codes "catch-all ") r l)) (reads_optional (codes "      catch-all ") (λ address. place_text address ++ codes "\n") (λ address. refl) reads_catch_all)))

-- the lines of a try
pub reads_try : Reads KnownTry (Lacks (codes "      ")) try_lines
unfolding try_lines count_text
reads_try = reads_by (λ t. (t.start, (t.count, t.handler))) (λ t u e i. record { start = (e i).0; count = (e i).1.0; handler = (e i).1.1 })
    (reads_words (codes "    try ") (reads_both reads_place (λ y r g f. refl) (reads_both (reads_count (codes " units=")) (λ y r g f. refl) (reads_words (codes "\n") reads_handler))))

-- the lines of tries, in front of what does not begin as they do
pub reads_tries : Reads (AllByRecursion KnownTry) (λ r. Lacks (codes "      ") r × Lacks (codes "    try ") r) (flat_map try_lines)
unfolding try_lines
reads_tries = reads_lines (codes "    try ") (λ t. place_text t.start ++ (count_text (codes " units=") t.count ++ (codes "\n" ++ (flat_map catch_line t.handler.catches ++ option_map_or catch_all_line t.handler.catch_all []))))
    (λ t. refl) (λ r. refl) reads_try
