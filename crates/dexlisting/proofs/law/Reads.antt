-- Texts that are read back: from a text and what follows it, what was written and what follows are found in one way.
use Rattle.dexspec.proofs.Common.{◌≡◌, ℕ, ◌==◌, Bool, true, false, if◌then◌else◌, List, [], ◌∷◌, ◌++◌, length, drop, Option, Some, None, refl, sym, ap, subst, ◌∙◌, append_assoc, append_cancel_left, true≢false, flat_map, AllByRecursion, option_map_or}
use Rattle.std.proofs.Common.{ap₂, eq-eqb}

-- ---- what follows

-- anything may follow
abbrev pub Anything : List ℕ → Type 0
Anything r = Unit {0}

-- whether a text begins with a sign that passes a test
abbrev pub begins : (ℕ → Bool) → List ℕ → Bool
begins test [] = false
begins test (u ∷ r) = test u

-- it does not: where the sign is of a number or a name, this ends here
abbrev pub Ends : (ℕ → Bool) → List ℕ → Type 0
Ends test r = begins test r ≡ false

-- whether a text begins with words
abbrev pub begins_with : List ℕ → List ℕ → Bool
begins_with [] r = true
begins_with (w ∷ ws) [] = false
begins_with (w ∷ ws) (u ∷ r) = if w == u then begins_with ws r else false

-- it does not. Where words and text are known, `refl` proves it
abbrev pub Lacks : List ℕ → List ℕ → Type 0
Lacks words r = begins_with words r ≡ false

-- a text begins with its first words
pub begins_with-append : (words r : List ℕ) → begins_with words (words ++ r) ≡ true
begins_with-append [] r = refl
begins_with-append (w ∷ ws) r = let same : (w == w) ≡ true = eq-eqb w w refl in rw same (begins_with-append ws r)

-- so no text that lacks them is such a text
pub not_lacking : (words r s : List ℕ) → Lacks words s → words ++ r ≡ s → ⊥
not_lacking words r s lacks e = true≢false (sym (begins_with-append words r) ∙ ap (begins_with words) e ∙ lacks)

-- ---- reading back

-- a text is read back in front of what may follow it
pub record Reads {X : Type 0} (Good : X → Type 0) (Follows : List ℕ → Type 0) (text : X → List ℕ) : Type 0 where
  pub read : (x y : X) (r s : List ℕ) → Good x → Good y → Follows r → Follows s → text x ++ r ≡ text y ++ s → (x ≡ y) × (r ≡ s)

-- what follows words that are known, by computation: then nothing is to be inferred
pub after : (words : List ℕ) {t u : List ℕ} → t ≡ u → drop (length words) t ≡ drop (length words) u
after words e = ap (drop (length words)) e

-- the same words at the head of two texts
pub skip : (words : List ℕ) (a b r s : List ℕ) → (words ++ a) ++ r ≡ (words ++ b) ++ s → a ++ r ≡ b ++ s
skip words a b r s e = append_cancel_left words _ _ (sym (append_assoc words a r) ∙ e ∙ append_assoc words b s)

-- a part of a text, with more of the text after it
pub part : {X : Type 0} {Good : X → Type 0} {Follows : List ℕ → Type 0} {text : X → List ℕ} → Reads Good Follows text
    → (x y : X) (a b r s : List ℕ) → Good x → Good y → Follows (a ++ r) → Follows (b ++ s)
    → (text x ++ a) ++ r ≡ (text y ++ b) ++ s → (x ≡ y) × (a ++ r ≡ b ++ s)
part {text} one x y a b r s gx gy fx fy e = one.read x y (a ++ r) (b ++ s) gx gy fx fy (sym (append_assoc (text x) a r) ∙ e ∙ append_assoc (text y) b s)

-- what is read back of less, and in front of more
pub reads_weaker : {X : Type 0} {Good Better : X → Type 0} {Follows Ending : List ℕ → Type 0} {text : X → List ℕ}
    → ((x : X) → Better x → Good x) → ((r : List ℕ) → Ending r → Follows r) → Reads Good Follows text → Reads Better Ending text
reads_weaker good follows one = record { read = λ x y r s gx gy fr fs e. one.read x y r s (good x gx) (good y gy) (follows r fr) (follows s fs) e }

-- words before a text
pub reads_words : {X : Type 0} {Good : X → Type 0} {Follows : List ℕ → Type 0} {text : X → List ℕ}
    → (words : List ℕ) → Reads Good Follows text → Reads Good Follows (λ x. words ++ text x)
reads_words {text} words one = record { read = λ x y r s gx gy fr fs e. one.read x y r s gx gy fr fs (skip words (text x) (text y) r s e) }

-- words after a text
pub reads_closed : {X : Type 0} {Good : X → Type 0} {Follows Ending : List ℕ → Type 0} {text : X → List ℕ}
    → (words : List ℕ) → ((r : List ℕ) → Ending r → Follows (words ++ r)) → Reads Good Follows text → Reads Good Ending (λ x. text x ++ words)
reads_closed {text} words ends one = record {
  read = λ x y r s gx gy fr fs e.
      let p = part one x y words words r s gx gy (ends r fr) (ends s fs) e in
      (p.0, append_cancel_left words _ _ p.1);
}

-- ---- lists and options

-- what may follow a list of texts follows each of them, if the next text may
pub follows_list : {X : Type 0} {Good : X → Type 0} (Follows : List ℕ → Type 0) (text : X → List ℕ)
    → ((x : X) (r : List ℕ) → Good x → Follows (text x ++ r))
    → (xs : List X) (r : List ℕ) → AllByRecursion Good xs → Follows r → Follows (flat_map text xs ++ r)
follows_list Follows text more [] r g f = f
follows_list Follows text more (x ∷ xs) r g f = subst Follows (sym (append_assoc (text x) (flat_map text xs) r)) (more x (flat_map text xs ++ r) g.0)

-- the same of an option, where another text is used for none
pub follows_option : {X : Type 0} (Follows : List ℕ → Type 0) (text : X → List ℕ) (absent : List ℕ)
    → ((x : X) (r : List ℕ) → Follows (text x ++ r)) → ((r : List ℕ) → Follows r → Follows (absent ++ r))
    → (x : Option X) (r : List ℕ) → Follows r → Follows (option_map_or text x absent ++ r)
follows_option Follows text absent more fewer None r f = fewer r f
follows_option Follows text absent more fewer (Some x) r f = more x r

module _ {X : Type 0} {Good : X → Type 0} {Follows : List ℕ → Type 0} {text : X → List ℕ} (Stops : List ℕ → Type 0) (one : Reads Good Follows text)
    (more : (x : X) (r : List ℕ) → Good x → Follows (text x ++ r))
    (stop : (x : X) (r s : List ℕ) → Good x → Stops s → text x ++ r ≡ s → ⊥) where
  -- element by element
  list_from : (xs ys : List X) (r s : List ℕ) → AllByRecursion Good xs → AllByRecursion Good ys → Follows r × Stops r → Follows s × Stops s
      → flat_map text xs ++ r ≡ flat_map text ys ++ s → (xs ≡ ys) × (r ≡ s)
  list_from [] [] r s gx gy fr fs e = (refl, e)
  list_from [] (y ∷ ys) r s gx gy fr fs e = absurd (stop y (flat_map text ys ++ s) r gy.0 fr.1 (sym (e ∙ append_assoc (text y) (flat_map text ys) s)))
  list_from (x ∷ xs) [] r s gx gy fr fs e = absurd (stop x (flat_map text xs ++ r) s gx.0 fs.1 (sym (append_assoc (text x) (flat_map text xs) r) ∙ e))
  list_from (x ∷ xs) (y ∷ ys) r s gx gy fr fs e =
      let p = part one x y (flat_map text xs) (flat_map text ys) r s gx.0 gy.0 (follows_list Follows text more xs r gx.1 fr.0) (follows_list Follows text more ys s gy.1 fs.0) e in
      let q = list_from xs ys r s gx.1 gy.1 fr fs p.1 in
      (ap₂ ◌∷◌ p.0 q.0, q.1)

  -- a list of texts, in front of what is no such text
  pub reads_list : Reads (AllByRecursion Good) (λ r. Follows r × Stops r) (flat_map text)
  reads_list = record { read = list_from }

-- a list of texts that begin with the same words, in front of what lacks them
pub reads_lines : {X : Type 0} {Good : X → Type 0} {Follows : List ℕ → Type 0} {text : X → List ℕ} (words : List ℕ) (rest : X → List ℕ)
    → ((x : X) → text x ≡ words ++ rest x) → ((r : List ℕ) → Follows (words ++ r))
    → Reads Good Follows text → Reads (AllByRecursion Good) (λ r. Follows r × Lacks words r) (flat_map text)
reads_lines {X} {Good} {Follows} {text} words rest is more one = reads_list (Lacks words) one
    (λ x r g. subst Follows (sym (ap (λ t. t ++ r) (is x) ∙ append_assoc words (rest x) r)) (more (rest x ++ r)))
    (λ x r s g lacks e. not_lacking words (rest x ++ r) s lacks (sym (ap (λ t. t ++ r) (is x) ∙ append_assoc words (rest x) r) ∙ e))

-- what is good of an option's value, if there is one
abbrev pub IfAny : {X : Type 0} → (X → Type 0) → Option X → Type 0
IfAny Good None = Unit {0}
IfAny Good (Some x) = Good x

module _ {X : Type 0} {Good : X → Type 0} {Follows : List ℕ → Type 0} {text : X → List ℕ} (absent : List ℕ) (one : Reads Good Follows text)
    (apart : (x : X) (r s : List ℕ) → Good x → Follows r → Follows s → text x ++ r ≡ absent ++ s → ⊥) where
  -- by both options
  option_from : (x y : Option X) (r s : List ℕ) → IfAny Good x → IfAny Good y → Follows r → Follows s
      → option_map_or text x absent ++ r ≡ option_map_or text y absent ++ s → (x ≡ y) × (r ≡ s)
  option_from None None r s gx gy fr fs e = (refl, append_cancel_left absent _ _ e)
  option_from None (Some y) r s gx gy fr fs e = absurd (apart y s r gy fs fr (sym e))
  option_from (Some x) None r s gx gy fr fs e = absurd (apart x r s gx fr fs e)
  option_from (Some x) (Some y) r s gx gy fr fs e = let p = one.read x y r s gx gy fr fs e in (ap Some p.0, p.1)

  -- an option, where another text is used for none
  pub reads_option : Reads (IfAny Good) Follows (λ x. option_map_or text x absent)
  reads_option = record { read = option_from }

-- an option of a text that begins with words, or nothing, in front of what lacks these words
pub reads_optional : {X : Type 0} {Good : X → Type 0} {Follows : List ℕ → Type 0} {text : X → List ℕ} (words : List ℕ) (rest : X → List ℕ)
    → ((x : X) → text x ≡ words ++ rest x)
    → Reads Good Follows text → Reads (IfAny Good) (λ r. Follows r × Lacks words r) (λ x. option_map_or text x [])
reads_optional words rest is one = reads_option [] (reads_weaker (λ x g. g) (λ r f. f.0) one)
    (λ x r s g fr fs e. not_lacking words (rest x ++ r) s fs.1 (sym (ap (λ t. t ++ r) (is x) ∙ append_assoc words (rest x) r) ∙ e))
