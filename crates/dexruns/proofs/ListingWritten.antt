-- What was written for bytes that were read is the listing of what they denote.
use Rattle.dexruns.proofs.Common.{◌≡◌, ℕ, List, ◌++◌, take, ap, ◌∙◌, Collection, Denotes, IsReadAs, Result}
use Rattle.dexout.specs.declared.faults.StoreFault.{StoreFault}
use Rattle.dexout.specs.declared.faults.StoreFault.TheVariants.{Memory, Io}
use Rattle.dexlisting.specs.declared.listing.Detail.{Detail}
use Rattle.dexlisting.specs.Detailed.{listing_in}
use Rattle.dexout.specs.Written as written
use Rattle.dexruns.specs.Faults.{fault_of_store}
use Rattle.dexruns.specs.Listings.{IsListingPrefix}
use Rattle.dexruns.specs.Runs.{IsLeftWith}
use Rattle.dexruns.proofs.Digested.{read_is, accepted_file}

pub listing_written : (detail : Detail) (one : (b : List ℕ) (K L : Collection) → Denotes b K → Denotes b L → K ≡ L) (b bytes : List ℕ) (K L : Collection) (old new : List ℕ) → bytes ≡ b → IsReadAs bytes L → Denotes b K → new ≡ old ++ listing_in detail L → new ≡ old ++ listing_in detail K
listing_written detail one b bytes K L old new same encodes denotes written = written ∙ ap (λ J. old ++ listing_in detail J) (read_is one b bytes K L same encodes denotes)

-- what is left after a fault of writing
pub left_by_listing : {W : Type 0} (detail : Detail) (one : (b : List ℕ) (K L : Collection) → Denotes b K → Denotes b L → K ≡ L) (reads writes : Type 0) (old new : W) (taken : W → List ℕ) (b bytes : List ℕ) (L : Collection) (f : StoreFault) →
    (reads → bytes ≡ b) → IsReadAs bytes L → written.HasLeft writes old new taken (listing_in detail L) f → IsLeftWith (IsListingPrefix detail reads writes (taken old) (taken new) b) old new (fault_of_store f)
left_by_listing detail one reads writes old new taken b bytes L Memory same encodes left = left
left_by_listing detail one reads writes old new taken b bytes L Io same encodes left = λ r. (
  accepted_file b bytes L (same r) encodes,
  (λ w K denotes. let prefix = left w in (prefix.0, prefix.1 ∙ ap (λ J. taken old ++ take prefix.0 (listing_in detail J)) (read_is one b bytes K L (same r) encodes denotes))),
)
