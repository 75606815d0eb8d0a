-- Handlers that are the same are equal, and have equal hashes.
use Rattle.std.specs.Prelude.{◌≡◌, ◌==◌, ◌&&◌, ◌++◌, Bool, IsTrue}
use Rattle.std.proofs.Common.{ap}
use Rattle.std.specs.Bool.{Decides}
use Rattle.std.specs.Option.{option_eq}
use Rattle.std.specs.Cmp.{IsEquivalence, IsPartialEquivalence, partial_equiv_from_equiv, decided, unsigned_Decides}
use Rattle.std.specs.Cmp.{first_so, second_so}
use Rattle.std.specs.Cmp.Lexicographic.{pointwise, pointwise_decides}
use Rattle.std.specs.Hash as fed
use Rattle.dexdebug.specs.Equality.{both, option_decides}
use Rattle.dexcode.specs.declared.handlers.Catch.{Catch}
use Rattle.dexcode.specs.Numbered.{NumberedHandler, same_catch, same_handler}

-- a test of two parts decides whether both are equal
both_decide : {P Q R : Type 0} (a b : Bool) → Decides a P → Decides b Q → (P → Q → R) → (R → P) → (R → Q)
    → Decides (a && b) R
both_decide a b p q join first second =
    (λ e. join (p.0 (first_so a b e)) (q.0 (second_so a b e)), λ e. both a b (p.1 (first e)) (q.1 (second e)))

pub catch_decides : (c d : Catch) → Decides (same_catch c d) (c ≡ d)
catch_decides c d =
    both_decide (c.typ == d.typ) (c.addr == d.addr) (unsigned_Decides c.typ d.typ) (unsigned_Decides c.addr d.addr)
    (λ e f i. record { typ = e i; addr = f i }) (ap (λ x. x.typ)) (ap (λ x. x.addr))

pub handler_decides : (h k : NumberedHandler) → Decides (same_handler h k) (h ≡ k)
handler_decides h k =
    both_decide (pointwise same_catch h.catches k.catches) (option_eq ◌==◌ h.catch_all_addr k.catch_all_addr)
    (pointwise_decides catch_decides h.catches k.catches) (option_decides h.catch_all_addr k.catch_all_addr)
    (λ e f i. record { catches = e i; catch_all_addr = f i }) (ap (λ x. x.catches)) (ap (λ x. x.catch_all_addr))

pub handler_equiv : IsEquivalence same_handler
handler_equiv = decided same_handler handler_decides

pub handler_per : IsPartialEquivalence same_handler
handler_per = partial_equiv_from_equiv handler_equiv

-- what a hasher is fed
abbrev pub handler_input : NumberedHandler → fed.HashWrites
handler_input h = fed.slice (λ c. fed.u32 c.typ ++ fed.u32 c.addr) h.catches ++ fed.option fed.u32 h.catch_all_addr

pub handlers_equal : (h k : NumberedHandler) → IsTrue (same_handler h k) → handler_input h ≡ handler_input k
handlers_equal h k same = ap handler_input ((handler_decides h k).0 same)
