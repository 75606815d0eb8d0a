-- The tables of the code are those of the definitions, opcode by opcode: by computation.
use Rattle.dexinsn.proofs.Common.{◌≡◌, ℕ, ◌<◌, List, map, get_or, refl, ap, sym, ◌∙◌, zero-add, range_with_len, get_or-map-range_with_len, opcode_of, opcode_runs, IsRowOf, Row}
use Rattle.std.specs.Borrow.{Bor}
use Rattle.std.proofs.Math.ListN.{get_or-map}
use Rattle.dexinsn.specs.Opcode.{AreMnemonics, AreRows, meant, mnemonic_of, row_meant}
use Rattle.dexinsn.specs.declared.opcodes.TheConstants.{MNEMONICS, ROWS}

pub rows_are : map meant ROWS ≡ map row_meant (range_with_len 0 256)
unfolding opcode_of opcode_runs
rows_are = refl

pub mnemonics_are : map (λ text. text.now) MNEMONICS ≡ map mnemonic_of (range_with_len 0 256)
unfolding opcode_of opcode_runs
mnemonics_are = refl

-- the row at an opcode says what it is
row_says : (rows : List Row) (d : Row) → AreRows rows → (op : ℕ) → op < 256 → meant (get_or rows op d) ≡ row_meant op
row_says rows d table op small = sym (get_or-map meant rows op d) ∙ ap (λ all. get_or all op (meant d)) table.each ∙ get_or-map-range_with_len row_meant 0 256 op op (meant d) small (zero-add op)

pub row_is : (rows : List Row) (d : Row) → AreRows rows → (op : ℕ) → op < 256 → IsRowOf op (get_or rows op d)
row_is rows d table op small = let says = row_says rows d table op small in record {
  format = ap (λ x. x.0) says;
  index = ap (λ x. x.1) says;
  units = ap (λ x. x.2) says;
  branches = ap (λ x. x.3) says;
  greatest = ap (λ x. x.4) says;
}

-- the text at an opcode is its mnemonic
pub mnemonic_is : (texts : List (Bor (List ℕ))) (d : Bor (List ℕ)) → AreMnemonics texts → (op : ℕ) → op < 256 → (get_or texts op d).now ≡ mnemonic_of op
mnemonic_is texts d table op small =
    sym (get_or-map (λ (text : Bor (List ℕ)). text.now) texts op d) ∙ ap (λ all. get_or all op d.now) table.each ∙ get_or-map-range_with_len mnemonic_of 0 256 op op d.now small (zero-add op)
