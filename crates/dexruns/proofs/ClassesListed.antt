-- What was written for bytes that were read is the listing of the classes of these names that they denote.
use Rattle.std.proofs.Common.{◌≡◌, ℕ, ◌<◌, Bool, true, List, [], ◌++◌, length, map, take, get_or, sym, ap, ◌∙◌, subst, arith}
use Rattle.std.specs.Prelude.{All}
use Rattle.std.proofs.lemmas.List.{get_or-map, length-map, take-map}
use Rattle.std.proofs.lemmas.Simd.{map-map}
use Rattle.dexspec.specs.Classes.{Definition}
use Rattle.dexspec.specs.Files.{Collection, definitions, Denotes}
use Rattle.dexspec.specs.Depth.{in_class_order}
use Rattle.dexclass.specs.Programs.{IsReadAs}
use Rattle.dexio.specs.Prefixes.{TakesPrefix}
use Rattle.dexout.specs.declared.faults.StoreFault.{StoreFault}
use Rattle.dexout.specs.declared.faults.StoreFault.TheVariants.{Memory, Io}
use Rattle.dexout.specs.Printed.{shown}
use Rattle.dexout.specs.Written as written
use Rattle.dexlisting.specs.declared.listing.Detail.{Detail}
use Rattle.dexlisting.specs.Detailed.{listing_in_of}
use Rattle.dexlisting.proofs.Chosen.{chosen_lines}
use Rattle.dexruns.specs.Faults.{fault_of_store}
use Rattle.dexruns.specs.Listings.{is_among, printed_names, class_listing, AreClassNames, IsFirstUnknown, IsDumped, IsClassListingPrefix}
use Rattle.dexruns.specs.Runs.{IsLeftWith}
use Rattle.dexruns.specs.declared.dumping.Listed.TheVariants.{Done}
use Rattle.dexruns.specs.internal.Choices.{IsFirstFalse}
use Rattle.dexruns.proofs.Among.{all_pass}
use Rattle.dexruns.proofs.Digested.{read_is, accepted_file}

-- ---- which classes are chosen

module _ (names : List (List ℕ)) (K : Collection) (classes : List (List ℕ)) (flags : List Bool) (are : classes ≡ printed_names K) (known : flags ≡ map (is_among classes) names) where
  -- the flags say which names are those of classes
  known_is : flags ≡ map (is_among (printed_names K)) names
  known_is = known ∙ ap (λ l. map (is_among l) names) are

  -- the first flag that is false is that of the first name that no class has
  pub first_unknown : (i : ℕ) → IsFirstFalse flags i → IsFirstUnknown names K i
  first_unknown i first =
      let within : i < length names = omega (arith, first.within, ap (λ (l : List Bool). length l) known, length-map names (is_among classes)) in
      record {
        within = within;
        before = all_pass (is_among (printed_names K)) (take i names) (subst (All (λ flag. flag ≡ true)) (ap (take i) known_is ∙ take-map (is_among (printed_names K)) i names) first.before);
        unknown = sym (get_or-map (is_among (printed_names K)) names i [] true within) ∙ sym (ap (λ l. get_or l i true) known_is) ∙ first.is;
      }

  -- if all are true, each name is that of a class
  pub all_known : All (λ flag. flag ≡ true) flags → AreClassNames names K
  all_known all = all_pass (is_among (printed_names K)) names (subst (All (λ flag. flag ≡ true)) known_is all)

-- the lines of the classes that the flags choose are the listing of the classes of these names
chosen_listing : (detail : Detail) (names : List (List ℕ)) (K : Collection) (flags : List Bool) → flags ≡ map (is_among names) (printed_names K) → listing_in_of detail flags K ≡ class_listing detail names K
chosen_listing detail names K flags are =
    chosen_lines detail K (λ d. is_among names (shown d.0)) flags (are ∙ map-map (is_among names) (λ (d : Definition). shown d.0) (in_class_order (definitions K)))

-- ---- what was written

module _ (one : (b : List ℕ) (K L : Collection) → Denotes b K → Denotes b L → K ≡ L) (names : List (List ℕ)) (b bytes : List ℕ) (L : Collection) (encodes : IsReadAs bytes L) where
  -- a name that no class of the program has is that of no class of what the bytes denote
  pub unknown_read : (i : ℕ) (K : Collection) → bytes ≡ b → Denotes b K → IsFirstUnknown names L i → IsFirstUnknown names K i
  unknown_read i K same denotes unknown = subst (λ J. IsFirstUnknown names J i) (read_is one b bytes K L same encodes denotes) unknown

  module _ (flags : List Bool) (known : AreClassNames names L) (are : flags ≡ map (is_among names) (printed_names L)) where
    pub classes_written : (detail : Detail) (writes : Type 0) (old new : List ℕ) (K : Collection) → bytes ≡ b → Denotes b K → (writes → new ≡ old ++ listing_in_of detail flags L) → IsDumped detail names K writes old new Done
    classes_written detail writes old new K same denotes put =
        subst (λ J. IsDumped detail names J writes old new Done) (read_is one b bytes K L same encodes denotes) (known, (λ w. put w ∙ ap (λ text. old ++ text) (chosen_listing detail names L flags are)))

    -- what is left after a fault of writing
    pub left_by_classes : {W : Type 0} (detail : Detail) (reads writes : Type 0) (old new : W) (taken : W → List ℕ) (f : StoreFault) → (reads → bytes ≡ b) → written.HasLeft writes old new taken (listing_in_of detail flags L) f →
        IsLeftWith (IsClassListingPrefix detail reads writes names (taken old) (taken new) b) old new (fault_of_store f)
    left_by_classes detail reads writes old new taken Memory same left = left
    left_by_classes detail reads writes old new taken Io same left = λ r. (
      accepted_file b bytes L (same r) encodes,
      (λ K denotes. subst (λ J. AreClassNames names J × (writes → TakesPrefix (taken old) (taken new) (class_listing detail names J))) (read_is one b bytes K L (same r) encodes denotes)
          (known, (λ w. let prefix = left w in (prefix.0, prefix.1 ∙ ap (λ text. taken old ++ take prefix.0 text) (chosen_listing detail names L flags are))))),
    )
