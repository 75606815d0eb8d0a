-- Files read one after the other.
use Rattle.std.proofs.Common.{◌≡◌, ℕ, ◌+◌, ◌<◌, List, [], ◌∷◌, ◌++◌, length, get_or, take, map, sym, ap, ◌∙◌, subst, arith}
use Rattle.std.proofs.lemmas.List.{get_or-map, length-map, take_all, take_more}
use Rattle.std.specs.List.{AllZip}
use Rattle.dexspec.specs.Files.{Collection}
use Rattle.dexspec.specs.Accepted.{IsRefused}
use Rattle.dexclass.specs.Programs.{IsReadAs, IsFaultOf}
use Rattle.dexids.specs.declared.faults.ReadFault.{ReadFault}
use Rattle.dexids.specs.declared.faults.ReadFault.TheVariants.{Refused, Memory}
use Rattle.dexkit_c.specs.Calls.{AreReadAs}
use Rattle.dexruns.specs.declared.faults.MergeCause.{MergeCause}
use Rattle.dexruns.specs.declared.faults.RunFault.{RunFault}
use Rattle.dexruns.specs.declared.faults.RunFault.TheVariants as run
use Rattle.dexkit_c.specs.Faults.{IsUnreadFile, IsFaultOfFiles, fault_of_input}

zip_more : {A B : Type 0} (P : A → B → Type 0) (xs : List A) (ys : List B) (x : A) (y : B) → AllZip P xs ys → P x y → AllZip P (xs ++ x ∷ []) (ys ++ y ∷ [])
zip_more P [] [] x y all here = (here, tt)
zip_more P (a ∷ xs) (b ∷ ys) x y all here = (all.0, zip_more P xs ys x y all.1 here)
zip_more _ _ _ x y all here = absurd all

-- one more file is read
pub read_more : {R : Type 0} (f : R → List ℕ) (xs : List R) (i : ℕ) (d : R) (Ks : List Collection) (K : Collection) → i < length xs → AreReadAs (take i (map f xs)) Ks → IsReadAs (f (get_or xs i d)) K → AreReadAs (take (i + 1) (map f xs)) (Ks ++ K ∷ [])
read_more f xs i d Ks K lt before here =
    let within : i < length (map f xs) = omega (arith, length-map xs f) in
    subst (λ zs. AllZip IsReadAs zs (Ks ++ K ∷ [])) (ap (λ z. take i (map f xs) ++ z ∷ []) (sym (get_or-map f xs i d [] lt)) ∙ sym (take_more (map f xs) i [] within))
    (zip_more IsReadAs (take i (map f xs)) Ks (f (get_or xs i d)) K before here)

-- all are read
pub all_read : {R : Type 0} (f : R → List ℕ) (xs : List R) (i : ℕ) (Ks : List Collection) → i ≡ length xs → AreReadAs (take i (map f xs)) Ks → AreReadAs (map f xs) Ks
all_read f xs i Ks end before = subst (λ zs. AllZip IsReadAs zs Ks) (take_all i (map f xs) (omega (arith, end, length-map xs f))) before

-- the files before this one are read, and it is not
pub unread : {R : Type 0} (f : R → List ℕ) (xs : List R) (i : ℕ) (d : R) (Ks : List Collection) (why : ReadFault) → i < length xs → AreReadAs (take i (map f xs)) Ks → IsFaultOf (f (get_or xs i d)) why → IsUnreadFile (map f xs) (fault_of_input i why)
unread f xs i d Ks (Refused refusal) lt before is = record {
  within = omega (arith, length-map xs f);
  collections = Ks;
  before = before;
  refused = subst (λ b. IsRefused b refusal.number refusal.place) (sym (get_or-map f xs i d [] lt)) is;
}
unread f xs i d Ks Memory lt before is = tt

-- what was not read is a fault of the files
pub fault_of_unread : (Unmade : MergeCause → Type 0) (files : List (List ℕ)) (why : RunFault) → IsUnreadFile files why → IsFaultOfFiles Unmade files why
fault_of_unread Unmade files (run.Input i refusal) is = is
fault_of_unread Unmade files run.Memory is = tt
fault_of_unread _ _ _ is = absurd is
