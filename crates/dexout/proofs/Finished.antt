-- What an output has done at its end, and what a writer that failed has taken.
use Rattle.dexout.proofs.Common.{◌≡◌, ℕ, List, ◌++◌, take, Result, Ok, Err, OnErr, [], Bool, true, false, OnOk, IfErr, refl, sym, ap, subst, ◌∙◌, arith, append-nil, ◌↔◌, vec_len, nil_from_length, TookPrefix, HasLeft, Adds, HasRoom, HasWritten, result_of}
use Rattle.std.specs.Global.{Vec}
use Rattle.dexout.specs.declared.writer.Writer.{Writer}
use Rattle.dexout.specs.declared.faults.StoreFault.{StoreFault}
use Rattle.dexout.specs.declared.faults.StoreFault.TheVariants.{Io}
use Rattle.dexout.specs.declared.output.Out.{Out}
use Rattle.dexout.specs.Took.{Took}

pub took_prefix : {W T E : Type 0} (reports : W → Type 0) (taken : W → List ℕ) (x : List ℕ) (old new : Writer W) (r : Result T E) → new.sink.ghost_name ≡ old.sink.ghost_name
    → OnErr r (reports old.sink.now → (n : ℕ) × (taken new.sink.now ≡ taken old.sink.now ++ take n x)) → OnErr r (TookPrefix reports taken x old new)
took_prefix reports taken x old new (Ok _) same p = tt
took_prefix reports taken x old new (Err _) same p = record { same = same; some = p }

-- ---- what an output has done at its end

-- a vector without items
no_items : (v : Vec ℕ) → vec_len v ≡ 0 → v.items ≡ []
no_items v e = nil_from_length v.items (omega (arith, v.ok.0, e))

module _ {T : Type 0} {gives gives_prefix : List ℕ → T → T → Type 0} where
  -- what is buffered at the start counts as written
  pub begun : (out : Out T) → out.failed ≡ false → gives [] out.target out.target → HasWritten gives gives_prefix out.target out out.buffer.items
  begun out fine nothing = record { made = λ e. record { gone = []; given = nothing; joined = refl }; prefix = λ f. absurd (let never : false ≡ true = sym fine ∙ f in cc) }

  -- all of it was flushed
  pub all_given : (start : T) (out : Out T) (m : List ℕ) → HasWritten gives gives_prefix start out m → out.failed ≡ false → vec_len out.buffer ≡ 0 → gives m start out.target
  all_given start out m h fine empty =
      let k = h.made fine in
      subst (λ z. gives z start out.target) (sym (append-nil k.gone) ∙ ap (λ z. k.gone ++ z) (sym (no_items out.buffer empty)) ∙ k.joined) k.given

-- a target that cannot fail has taken all
pub sure : {T : Type 0} {gives gives_prefix : List ℕ → T → T → Type 0} {has_failed : T → Bool} {x : List ℕ} {old new : Out T} → ((t : T) → has_failed t ≡ false) → Adds gives gives_prefix has_failed x old new → old.failed ≡ false → HasRoom old
    → gives [] old.target old.target → vec_len new.buffer ≡ 0 → gives (old.buffer.items ++ x) old.target new.target
sure {gives_prefix = gives_prefix} {x = x} {old = old} {new = new} works a fresh room nothing empty =
    all_given {gives_prefix = gives_prefix} old.target new (old.buffer.items ++ x) (a.written room old.target old.buffer.items (begun old fresh nothing)) (sym (a.reports (works old.target ∙ sym fresh)) ∙ works new.target) empty

-- ---- a writer

module _ {W : Type 0} (reports : W → Type 0) (taken : W → List ℕ) (start : Writer W) (out : Out (Writer W)) (x : List ℕ) (h : HasWritten (Took reports taken) (TookPrefix reports taken) start out x) where
  same_at : (failed : Bool) → out.failed ≡ failed → out.target.sink.ghost_name ≡ start.sink.ghost_name
  same_at false e = (h.made e).given.same
  same_at true e = (h.prefix e).same

  -- it is the same
  pub same_writer : out.target.sink.ghost_name ≡ start.sink.ghost_name
  same_writer = same_at out.failed refl

  written_at : (failed : Bool) → out.failed ≡ failed → vec_len out.buffer ≡ 0 → OnOk (result_of failed) (reports start.sink.now → taken out.target.sink.now ≡ taken start.sink.now ++ x)
  written_at false e empty = λ t. ((all_given {gives_prefix = TookPrefix reports taken} start out x h e empty).all t).1
  written_at true e empty = tt

  -- it has taken all
  pub written_whole : (r : Result (Unit {0}) StoreFault) → r ≡ result_of out.failed → vec_len out.buffer ≡ 0 → OnOk r (reports start.sink.now → taken out.target.sink.now ≡ taken start.sink.now ++ x)
  written_whole r is empty = subst (λ (z : Result (Unit {0}) StoreFault). OnOk z (reports start.sink.now → taken out.target.sink.now ≡ taken start.sink.now ++ x)) (sym is) (written_at out.failed refl empty)

  left_at : (failed : Bool) → out.failed ≡ failed → IfErr (result_of failed) (HasLeft (reports start.sink.now) start.sink.now out.target.sink.now taken x)
  left_at false e = tt
  left_at true e = (h.prefix e).some

  -- or a prefix
  pub written_prefix : (r : Result (Unit {0}) StoreFault) → r ≡ result_of out.failed → IfErr r (HasLeft (reports start.sink.now) start.sink.now out.target.sink.now taken x)
  written_prefix r is = subst (λ (z : Result (Unit {0}) StoreFault). IfErr z (HasLeft (reports start.sink.now) start.sink.now out.target.sink.now taken x)) (sym is) (left_at out.failed refl)

module _ {W : Type 0} (has_failed : W → Bool) (out : Out (Writer W)) (reports : has_failed out.target.sink.now ≡ out.failed) where
  reported_at : (failed : Bool) → out.failed ≡ failed → (result_of failed ≡ Err Io) ↔ (has_failed out.target.sink.now ≡ true)
  reported_at false e = ((λ same. absurd cc), (λ fails. absurd (let no : false ≡ true = sym (reports ∙ e) ∙ fails in cc)))
  reported_at true e = ((λ _. reports ∙ e), (λ _. refl))

  -- the writer's fault is reported if and only if it failed
  pub reported_failed : (r : Result (Unit {0}) StoreFault) → r ≡ result_of out.failed → (r ≡ Err Io) ↔ (has_failed out.target.sink.now ≡ true)
  reported_failed r is = subst (λ (z : Result (Unit {0}) StoreFault). (z ≡ Err Io) ↔ (has_failed out.target.sink.now ≡ true)) (sym is) (reported_at out.failed refl)
