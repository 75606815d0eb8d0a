-- What is counted of a directory while it is read.
use Rattle.dexval.proofs.Common.{◌≡◌, ℕ, ◌+◌, ◌-◌, ◌*◌, ◌^◌, ◌<◌, min, List, [], ◌∷◌, ◌++◌, length, map, sum_by, refl, ap, sym, subst, ◌∙◌, arith, length-map, sum_by-append, sum_by-cons, OrNone, uints_at, Field, Method, AnnotationSet, SetAt, Mentions, set_weight, ref_list_weight, length-uints_at, length-zip, sum_by-map, NumberedSet, NumberedDirectory, set_in, directory_in, field_at, method_at, directory_weight, set_weight_in, sets_weight_in, Budget, Counts, HasCounted}
use Rattle.dexval.proofs.DirectoryRead.{HaveReadList}

-- ---- steps

-- an equal weight, or both are 2^64 - 1 and more
pub counts_as : {old new : Budget} {n k : ℕ} → min (2 ^ 64 - 1) n ≡ min (2 ^ 64 - 1) k → Counts old new n → Counts old new k
counts_as e h = record { grown = omega (arith, e, h.grown); same_most = h.same_most; within = h.within }

-- one weight after another
pub counts_then : {old mid new : Budget} {n k : ℕ} → Counts old mid n → Counts mid new k → Counts old new (n + k)
counts_then h g = record { grown = omega (arith, h.grown, g.grown); same_most = g.same_most ∙ h.same_most; within = λ le. g.within (h.within le) }

-- an item that was read is also an item of another kind, of the same weight
pub counted_as : {X : Type 0} (Read Now : X → Type 0) (weighs heavy : X → ℕ) {old new : Budget} {x : X} → (Read x → Now x) → (Read x → weighs x ≡ heavy x) → HasCounted Read weighs old new x → HasCounted Now heavy old new x
counted_as Read Now weighs heavy goes same h = record { is_read = goes h.is_read; counted = counts_as (ap (min (2 ^ 64 - 1)) (same h.is_read)) h.counted }

-- one more item was read
pub one_counted : {X : Type 0} (Read Next : List X → Type 0) (weighs : List X → ℕ) (one : X → ℕ) {old mid new : Budget} {kept next : List X} {x : X} → weighs (kept ++ x ∷ []) ≡ weighs kept + one x
    → HasCounted Read weighs old mid kept → Counts mid new (one x) → (Read kept → Next (kept ++ x ∷ [])) → next ≡ kept ++ x ∷ [] → HasCounted Next weighs old new next
one_counted Read Next weighs one {old} {mid} {new} adds h counted goes e =
    subst (HasCounted Next weighs old new) (sym e) (record { is_read = goes h.is_read; counted = counts_as (ap (min (2 ^ 64 - 1)) (sym adds)) (counts_then h.counted counted) })

-- ---- lists of sets

-- one more set
pub list_adds : (m : Mentions) (list : ℕ) (s : NumberedSet) (ss : List NumberedSet) → list + sum_by (set_weight_in m) (ss ++ s ∷ []) ≡ list + sum_by (set_weight_in m) ss + set_weight_in m s
list_adds m list s ss = omega (arith, sum_by-append (set_weight_in m) ss (s ∷ []), sum_by-cons (set_weight_in m) s [])

weights_join : (m : Mentions) (list : ℕ) (ss : List NumberedSet) → (length ss ≡ 0 → list ≡ 0) → (0 < length ss → list ≡ 8 + 4 * length ss) → list + sum_by (set_weight_in m) ss ≡ sets_weight_in m ss
weights_join m list [] none some = omega (arith, none refl)
weights_join m list (s ∷ ss) none some = omega (arith, some (omega arith), sum_by-map set_weight (set_in m) (s ∷ ss), length-map (s ∷ ss) (set_in m))

-- all sets with the list
pub list_weighs : (b : List ℕ) (p : ℕ) (m : Mentions) (i list : ℕ) (ss : List NumberedSet) → (i ≡ 0 → list ≡ 0) → (0 < i → list ≡ 8 + 4 * i) → HaveReadList b p m i ss → list + sum_by (set_weight_in m) ss ≡ sets_weight_in m ss
list_weighs b p m i list ss none some h =
    let count : length ss ≡ i = omega (arith, length-zip (OrNone SetAt [] b) (uints_at b p i) (map (set_in m) ss) h.are_encoded, length-uints_at b p i, length-map ss (set_in m)) in
    weights_join m list ss (λ e. none (omega (arith, count, e))) (λ lt. omega (arith, count, lt, some (omega (arith, count, lt))))

-- ---- members

-- one more member
pub members_add : {X : Type 0} (weighs : X → ℕ) (x : ℕ × X) (xs : List (ℕ × X)) → sum_by (λ e. weighs e.1) (xs ++ x ∷ []) ≡ sum_by (λ e. weighs e.1) xs + weighs x.1
members_add weighs x xs = omega (arith, sum_by-append (λ e. weighs e.1) xs (x ∷ []), sum_by-cons (λ e. weighs e.1) x [])

-- ---- directories

pub parts_weigh : (m : Mentions) (d : NumberedDirectory) → directory_weight (directory_in m d) ≡ set_weight_in m d.own + sum_by (λ e. set_weight_in m e.1) d.fields + sum_by (λ e. set_weight_in m e.1) d.methods + sum_by (λ e. sets_weight_in m e.1) d.parameters
parts_weigh m d =
    omega (
      arith,
      sum_by-map (λ (e : Field × AnnotationSet). set_weight e.1) (λ (e : ℕ × NumberedSet). (field_at m e.0, set_in m e.1)) d.fields,
      sum_by-map (λ (e : Method × AnnotationSet). set_weight e.1) (λ (e : ℕ × NumberedSet). (method_at m e.0, set_in m e.1)) d.methods,
      sum_by-map (λ (e : Method × List AnnotationSet). ref_list_weight e.1) (λ (e : ℕ × List NumberedSet). (method_at m e.0, map (set_in m) e.1)) d.parameters,
    )

abbrev pub directory_parts : NumberedSet → List (ℕ × NumberedSet) → List (ℕ × NumberedSet) → List (ℕ × List NumberedSet) → NumberedDirectory
directory_parts own fields methods parameters = record { own = own; fields = fields; methods = methods; parameters = parameters }

pub same_parts : {a b : NumberedSet} {c d e f : List (ℕ × NumberedSet)} {g h : List (ℕ × List NumberedSet)} → a ≡ b → c ≡ d → e ≡ f → g ≡ h → directory_parts a c e g ≡ directory_parts b d f h
same_parts own fields methods parameters = cc
