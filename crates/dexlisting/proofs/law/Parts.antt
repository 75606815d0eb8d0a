-- Texts of several parts that are read back, and texts that do not begin with words.
use Rattle.dexspec.proofs.Common.{◌≡◌, ℕ, ◌==◌, Bool, true, false, if◌then◌else◌, List, [], ◌∷◌, ◌++◌, Option, Some, None, refl, ap, sym, ◌∙◌, append_assoc, flat_map, option_map_or}
use Rattle.dexlisting.proofs.law.Words.{apart}
use Rattle.dexlisting.proofs.law.Reads.{Reads, Lacks, begins_with}

-- a part of a value that determines the value
pub reads_by : {X Y : Type 0} {Good : Y → Type 0} {Follows : List ℕ → Type 0} {text : Y → List ℕ} (part_of : X → Y)
    → ((x y : X) → part_of x ≡ part_of y → x ≡ y) → Reads Good Follows text → Reads (λ x. Good (part_of x)) Follows (λ x. text (part_of x))
reads_by part_of back one = record {
  read = λ x y r s gx gy fr fs e.
      let z = one.read (part_of x) (part_of y) r s gx gy fr fs e in
      (back x y z.0, z.1);
}

-- two parts, one after the other
pub reads_both : {X Y : Type 0} {GoodX : X → Type 0} {Between : List ℕ → Type 0} {GoodY : Y → Type 0} {Follows : List ℕ → Type 0} {a : X → List ℕ} {b : Y → List ℕ}
    → Reads GoodX Between a → ((y : Y) (r : List ℕ) → GoodY y → Follows r → Between (b y ++ r)) → Reads GoodY Follows b
    → Reads {X = X × Y} (λ p. GoodX p.0 × GoodY p.1) Follows (λ p. a p.0 ++ b p.1)
reads_both {a} {b} reads_a between reads_b = record {
  read = λ p q r s gp gq fr fs e.
      let first = reads_a.read p.0 q.0 (b p.1 ++ r) (b q.1 ++ s) gp.0 gq.0 (between p.1 r gp.1 fr) (between q.1 s gq.1 fs)
      (sym (append_assoc (a p.0) (b p.1) r) ∙ e ∙ append_assoc (a q.0) (b q.1) s) in
      let second = reads_b.read p.1 q.1 r s gp.1 gq.1 fr fs first.1 in
      ((λ i. (first.0 i, second.0 i)), second.1);
}

-- ---- texts that lack words

-- the same words after a unit
lacks_by : (t : Bool) (w v r : List ℕ) → (Lacks w r → Lacks (w ++ v) r) → (if t then begins_with w r else false) ≡ false → (if t then begins_with (w ++ v) r else false) ≡ false
lacks_by true w v r more l = more l
lacks_by false w v r more l = refl

-- a text that lacks words lacks longer words
pub lacks_more : (w v r : List ℕ) → Lacks w r → Lacks (w ++ v) r
lacks_more [] v r l = absurd cc
lacks_more (a ∷ w) v [] l = refl
lacks_more (a ∷ w) v (b ∷ r) l = lacks_by (a == b) w v r (lacks_more w v r) l

-- the same of a text that may begin with other words
apart_by : (t : Bool) (w v r : List ℕ) → (apart w v ≡ true → Lacks w (v ++ r)) → (if t then apart w v else true) ≡ true → (if t then begins_with w (v ++ r) else false) ≡ false
apart_by true w v r more c = more c
apart_by false w v r more c = refl

-- where a text begins with other words than these
pub lacks_apart : (w v r : List ℕ) → apart w v ≡ true → Lacks w (v ++ r)
lacks_apart [] v r c = absurd cc
lacks_apart (a ∷ w) [] r c = absurd cc
lacks_apart (a ∷ w) (b ∷ v) r c = apart_by (a == b) w v r (lacks_apart w v r) c

-- and so a list of such texts
pub lacks_list : {X : Type 0} {text : X → List ℕ} (words : List ℕ) (after : X → List ℕ) → ((x : X) → text x ≡ words ++ after x)
    → (w : List ℕ) → apart w words ≡ true → (xs : List X) (r : List ℕ) → Lacks w r → Lacks w (flat_map text xs ++ r)
lacks_list words after is w c [] r l = l
lacks_list {text} words after is w c (x ∷ xs) r l =
    let rest = flat_map text xs in
    ap (begins_with w) (append_assoc (text x) rest r ∙ ap (λ t. t ++ (rest ++ r)) (is x) ∙ append_assoc words (after x) (rest ++ r)) ∙ lacks_apart w words (after x ++ (rest ++ r)) c

-- an optional text
pub lacks_option : {X : Type 0} {text : X → List ℕ} (words : List ℕ) (after : X → List ℕ) → ((x : X) → text x ≡ words ++ after x)
    → (w : List ℕ) → apart w words ≡ true → (o : Option X) (r : List ℕ) → Lacks w r → Lacks w (option_map_or text o [] ++ r)
lacks_option words after is w c None r l = l
lacks_option {text} words after is w c (Some x) r l = ap (begins_with w) (ap (λ t. t ++ r) (is x) ∙ append_assoc words (after x) r) ∙ lacks_apart w words (after x ++ r) c

-- two parts
pub lacks_both : (w a b r : List ℕ) → (Lacks w (b ++ r) → Lacks w (a ++ (b ++ r))) → Lacks w (b ++ r) → Lacks w ((a ++ b) ++ r)
lacks_both w a b r first l = ap (begins_with w) (append_assoc a b r) ∙ first l
