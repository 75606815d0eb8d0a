-- Lists of definitions with the same members, and the definitions of the files that plans name.
use Rattle.dexspec.proofs.Common.{◌≡◌, ℕ, ◌<◌, List, [], ◌++◌, subst, inl, inr, slice_index_or, Contains-append_left, Contains-append_right, Contains-append_cases}
use Rattle.dexspec.specs.Classes.{Definition}
use Rattle.dexspec.specs.Files.{Collection, definitions, AreSame, AreWithin, IsCollectionOf}
use Rattle.dexspec.specs.Merging.{Caps, Plan, leaves, IsPlanFor, union}
use Rattle.dexspec.proofs.lists.Members.{Contains-flat_map, Contains-flat_map_source}
use Rattle.dexspec.proofs.merge.Absorption.{IsGood-within, IsCause-within}
use Rattle.dexspec.proofs.merge.FirstCauses.{first_cause-same}
use Rattle.dexspec.proofs.merge.Collections.{collection-one, definitions-same}
use Rattle.dexlaws.specs.Merge.{HaveSameResult, NamesWithin}

pub turned : (D E : List Definition) → AreSame D E → AreSame E D
turned D E same d = ((same d).1, (same d).0)

collection-same : (D E : List Definition) (K : Collection) → AreSame D E → IsCollectionOf D K → IsCollectionOf E K
collection-same D E K same h name c = (λ e. (same (name, c)).0 ((h name c).0 e), λ has. (h name c).1 ((same (name, c)).1 has))

pub same_result : (caps : Caps) (D E : List Definition) → AreSame D E → HaveSameResult caps D E
same_result caps D E same = record {
  good = (IsGood-within E D (λ d. (same d).1) caps, IsGood-within D E (λ d. (same d).0) caps);
  collection = λ K. (collection-same D E K same, collection-same E D K (turned D E same));
  cause = λ cause. (IsCause-within D E (λ d. (same d).0) caps cause, IsCause-within E D (λ d. (same d).1) caps cause);
  first = λ cause. (first_cause-same caps D E cause same, first_cause-same caps E D cause (turned D E same));
}

-- collections of the same members are equal
pub one_collection : (D E : List Definition) (K L : Collection) → AreSame D E → IsCollectionOf D K → IsCollectionOf E L → K ≡ L
one_collection D E K L same h k = collection-one E K L (collection-same D E K same h) k

module _ (files : List (List Definition)) where
  pub union-within : (p q : Plan) → NamesWithin p q → AreWithin (union files p) (union files q)
  union-within p q within d c =
      let s = Contains-flat_map_source (λ i. slice_index_or files i []) (leaves p) d c in
      Contains-flat_map (λ i. slice_index_or files i []) (leaves q) s.0 d (within s.0 s.1) s.2

  names-within : (n : ℕ) (p q : Plan) → IsPlanFor n p → IsPlanFor n q → NamesWithin p q
  names-within n p q h k file c = k.named file (subst (λ (i : ℕ). i < n) c.2 (h.known c.0 file c.1))

  pub unions-same : (n : ℕ) (p q : Plan) → IsPlanFor n p → IsPlanFor n q → AreSame (union files p) (union files q)
  unions-same n p q h k d = (union-within p q (names-within n p q h k) d, union-within q p (names-within n q p k h) d)

-- the result of the first merge has the merged definitions
pub step-same : (first rest : List Definition) (K : Collection) → IsCollectionOf first K → AreSame (definitions K ++ rest) (first ++ rest)
step-same first rest K h d =
    let same = definitions-same first K h in (
      λ c. elim (Contains-append_cases (definitions K) rest d c) [ inl own ↦ Contains-append_left first rest d ((same d).0 own) | inr other ↦ Contains-append_right first rest d other ],
      λ c. elim (Contains-append_cases first rest d c) [ inl own ↦ Contains-append_left (definitions K) rest d ((same d).1 own) | inr other ↦ Contains-append_right (definitions K) rest d other ],
    )
