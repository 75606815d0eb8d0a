use Rattle.dexmembers.proofs.Common.{◌≡◌, length, ap, arith}
use Rattle.dexmembers.specs.{debug_places}
use Rattle.dexmembers.proofs.codes.KeptCodes.none.Goals as goal

pub returns-clause-places : goal.returns-clause-places
returns-clause-places c =
    let none : length c.in_ok-none.field-0.items.items ≡ 0 = ap length c.in_ok-none.ensures.items in
    let none' : length c.in_ok-none-2.field-0.items.items ≡ 0 = ap length c.in_ok-none-2.ensures.items in
    record {
      codes_placed = λ off place noted. absurd (c.in_ok-none.ensures.noted off place noted);
      debugs_placed = λ off place noted. absurd (c.in_ok-none-2.ensures.noted off place noted);
      stored = record {
        alone = λ k d lt. absurd (omega (arith, none, lt));
        places = record { held = λ k d lt. absurd (omega (arith, ap (λ xs. length (debug_places xs)) c.in_ok-none.ensures.items, lt)); named = λ i lt. absurd (omega (arith, none', lt)) };
      };
    }

pub returns-clause-read : goal.returns-clause-read
returns-clause-read c = λ b m. record {
  codes_read = λ off place noted. absurd (c.in_ok-none.ensures.noted off place noted);
  debugs_read = λ off place noted. absurd (c.in_ok-none-2.ensures.noted off place noted);
}
