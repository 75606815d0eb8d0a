-- Signatures of files, and the digests of classes.
use Rattle.dexcanon.proofs.Common.{◌≡◌, ℕ, List, [], ◌∷◌, ◌++◌, length, take, drop, map, sym, ap, ◌∙◌, subst, arith, inl, inr, Contains, take_at, drop_at, drop-append-add, sha1, uint, adler_32, Definition, Collection, definitions, Defines, Denotes, IsCollectionOf, Ordered, magic, unsigned_file, with_sums, canonical, length-uint, Head, with_sums_set, StatesLayout, after_header, field_bytes, head_bytes, class_alone, class_digest, IsFileAlone}
use Rattle.std.specs.Prelude.{reverse}
use Rattle.std.proofs.lemmas.List.{append_assoc, map-append, reverse-append, take-append-drop}
use Rattle.dexspec.specs.WellFormed.{AreWellFormed}
use Rattle.dexspec.specs.Merging.{IsConsistent, IsGood, greatest_caps}
use Rattle.dexspec.specs.Accepted.{IsAccepted}
use Rattle.dexspec.proofs.merge.Absorption.{IsGood-within}
use Rattle.dexspec.proofs.merge.Collections.{collection-is, collection-one, collection-consistent, definitions-same}
use Rattle.dexspec.proofs.lists.Members.{Contains-nil, Contains-first, Contains-cons_cases}
use Rattle.dexspec.proofs.layout.Sums.{length-sha1}
use Rattle.std.proofs.Common.{◌⊎◌, refl}
use Rattle.dexspec.proofs.lists.Decided.{text_same_or_not}
use Rattle.dexcanon.specs.Digests.{summed_file, IsCollision}
use Rattle.dexcanon.proofs.WholeFile.{after_signature}

-- ---- signatures

-- the signature of a file is the digest of what follows it
signature_is : (rest : List ℕ) → take 20 (drop 12 (with_sums rest)) ≡ sha1 rest
unfolding with_sums
signature_is rest =
    let body = sha1 rest ++ rest in
    let n = adler_32 body in
    ap (take 20) (drop-append-add magic (uint n ++ body) 4 ∙ drop_at (uint n) body 4 (length-uint n)) ∙ take_at (sha1 rest) rest 20 (length-sha1 rest)

-- the digest of the bytes after the signature of the file is that signature
pub signed_is : (l : Head) (K : Ordered) → length l.signature ≡ 20 → StatesLayout l K → ((k : Head) (rest : List ℕ) → length k.signature ≡ 20 → with_sums_set (head_bytes k ++ rest) ≡ with_sums (field_bytes k ++ rest))
    → ((k : Head) (O : Ordered) → length k.signature ≡ 20 → StatesLayout k O → with_sums_set (head_bytes k ++ after_header O) ≡ with_sums (unsigned_file O))
    → (signature : List ℕ) → signature ≡ sha1 (drop 32 (head_bytes l) ++ after_header K) → signature ≡ take 20 (drop 12 (with_sums (unsigned_file K)))
signed_is l K twenty reports set law signature e =
    let rest = after_header K in
    e ∙ ap (λ z. sha1 (z ++ rest)) (after_signature l twenty)
    ∙ sym (signature_is (field_bytes l ++ rest))
    ∙ ap (λ z. take 20 (drop 12 z)) (sym (set l rest twenty) ∙ law l K twenty reports)

-- ---- one class

-- the only member of a list of one
only_member : (d e : Definition) → Contains (d ∷ []) e → d ≡ e
only_member d e c = elim (Contains-cons_cases d e [] c) [
  | inl is ↦ is
  | inr none ↦ absurd (Contains-nil e none)
]

-- the collection of one definition
one_collection : (d : Definition) (K : Collection) → IsCollectionOf (d ∷ []) K → K ≡ class_alone d
one_collection d K is = collection-one (d ∷ []) K (class_alone d) is (collection-is (d ∷ []) (collection-consistent (d ∷ []) K is))

-- the digest of a part of one class
digest_of : (d : Definition) (K : Collection) (signature : List ℕ) → IsCollectionOf (d ∷ []) K → signature ≡ take 20 (drop 12 (canonical K)) → signature ≡ class_digest d
unfolding class_digest
digest_of d K signature is e = e ∙ ap (λ L. take 20 (drop 12 (canonical L))) (one_collection d K is)

-- it is appended
pub one_digest : (part : List Definition) (K : Collection) (signature : List ℕ) (old new : List (List ℕ)) → length part ≡ 1 → IsCollectionOf part K → signature ≡ take 20 (drop 12 (canonical K)) → new ≡ old ++ signature ∷ [] → new ≡ old ++ reverse (map class_digest part)
one_digest (d ∷ []) K signature old new count is e put = put ∙ ap (λ x. old ++ x ∷ []) (digest_of d K signature is e)
one_digest _ _ signature old new count is e put = absurd (omega (arith, count))

-- ---- many classes

-- the digests of the last classes are appended: those of the first are left
pub digests_more : (whole now new : List (List ℕ)) (parts left last : List Definition) (at : ℕ) → now ++ reverse (map class_digest parts) ≡ whole → left ≡ take at parts → last ≡ drop at parts → new ≡ now ++ reverse (map class_digest last) → new ++ reverse (map class_digest left) ≡ whole
digests_more whole now new parts left last at before first second put =
    let all : left ++ last ≡ parts = ap (λ z. z ++ last) first ∙ ap (λ z. take at parts ++ z) second ∙ take-append-drop at parts in
    let joined : reverse (map class_digest last) ++ reverse (map class_digest left) ≡ reverse (map class_digest parts) =
    sym (reverse-append (map class_digest left) (map class_digest last)) ∙ ap reverse (sym (map-append class_digest left last) ∙ ap (map class_digest) all) in
    ap (λ z. z ++ reverse (map class_digest left)) put ∙ append_assoc now (reverse (map class_digest last)) (reverse (map class_digest left)) ∙ ap (λ z. now ++ z) joined ∙ before

-- ---- files of one class

-- the file of a class alone is accepted, and denotes the class alone
pub file_alone : (K : Collection) (d : Definition) → IsGood greatest_caps (definitions K) → AreWellFormed (definitions K) → ((L : Collection) → IsGood greatest_caps (definitions L) → AreWellFormed (definitions L) → IsAccepted (canonical L))
    → ((L : Collection) → IsGood greatest_caps (definitions L) → AreWellFormed (definitions L) → Denotes (canonical L) L)
    → Contains (definitions K) d → IsFileAlone d
file_alone K d good formed accepted denotes member =
    let one : (e : Definition) → Contains (d ∷ []) e → Contains (definitions K) e = λ e c. subst (Contains (definitions K)) (only_member d e c) member in
    let alone = collection-is (d ∷ []) (λ name x y c e. good.consistent name x y (one (name, x) c) (one (name, y) e)) in
    let within : (e : Definition) → Contains (definitions (class_alone d)) e → Contains (definitions K) e = λ e c. one e ((definitions-same (d ∷ []) (class_alone d) alone e).0 c) in
    let fine = IsGood-within (definitions (class_alone d)) (definitions K) within greatest_caps good in
    let right : AreWellFormed (definitions (class_alone d)) = λ e c. formed e (within e c) in
    record { accepted = accepted (class_alone d) fine right; denotes = denotes (class_alone d) fine right }

-- a list of one definition is consistent
one_consistent : (d : Definition) → IsConsistent (d ∷ [])
one_consistent d name x y c e = ap (λ (z : Definition). z.1) (sym (only_member d (name, x) c) ∙ only_member d (name, y) e)

-- different definitions have different files
pub one_file : (d e : Definition) → IsFileAlone d → IsFileAlone e → canonical (class_alone d) ≡ canonical (class_alone e) → d ≡ e
one_file d e first second same =
    sym (only_member e d ((collection-is (e ∷ []) (one_consistent e) d.0 d.1).0 ((second.denotes d.0 d.1).1 (subst (λ b. Defines b d.0 d.1) same ((first.denotes d.0 d.1).0 ((collection-is (d ∷ []) (one_consistent d) d.0 d.1).1 (Contains-first d [])))))))

-- ---- digests that are equal

digest_is : (d : Definition) → class_digest d ≡ sha1 (summed_file d)
unfolding class_digest canonical
digest_is d = signature_is (summed_file d)

file_is : (d : Definition) → canonical (class_alone d) ≡ with_sums (summed_file d)
unfolding canonical
file_is d = refl

pub equal_digests : (d e : Definition) → IsFileAlone d → IsFileAlone e → class_digest d ≡ class_digest e → (d ≡ e) ⊎ IsCollision (summed_file d) (summed_file e)
equal_digests d e first second same = elim (text_same_or_not (summed_file d) (summed_file e)) [
  | inl equal ↦ inl (one_file d e first second (file_is d ∙ ap with_sums equal ∙ sym (file_is e)))
  | inr unequal ↦ inr (record { unequal = unequal; same = sym (digest_is d) ∙ same ∙ digest_is e })
]
