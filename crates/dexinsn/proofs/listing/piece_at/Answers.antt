use Rattle.dexinsn.proofs.Common.{◌≡◌, drop, ap, sym, ◌∙◌, subst, arith, piece_size, index_pool, left_by, kind_from, symbol_by, ListsFirst}
use Rattle.dexinsn.proofs.Listings.{listing_end, listing_on, listing_more, payload_two, payload_four}
use Rattle.dexinsn.proofs.listing.piece_at.Goals as goal

pub returns-then-len-at-clause-none : goal.returns-then-len-at-clause-none
returns-then-len-at-clause-none c = listing_end c.args.units.now c.args.at c.args.indices.now (omega (arith, c.len.ensures.len))

pub returns-in_err-size-clause-none : goal.returns-in_err-size-clause-none
returns-in_err-size-clause-none c = rw c.from_residual.ensures (absurd (listing_on c.args.units.now c.args.at c.args.indices.now c.requires (omega (arith, c.len.ensures.len)) (ap (piece_size c.args.at) (sym c.rest-rest.ensures) ∙ sym c.in_err-size.ensures.size)))

pub kind_of-requires-clause-two : goal.kind_of-requires-clause-two
kind_of-requires-clause-two c = payload_two c.args.at c.in_ok-size.size c.rest-rest.result (sym c.in_ok-size.ensures.size)

pub kind_of-requires-clause-four : goal.kind_of-requires-clause-four
kind_of-requires-clause-four c = payload_four c.args.at c.in_ok-size.size c.rest-rest.result (sym c.in_ok-size.ensures.size)

pub returns-clause-found : goal.returns-clause-found
returns-clause-found c =
    let more = listing_more c.args.units.now c.args.at c.in_ok-size.size c.args.indices.now c.requires (ap (piece_size c.args.at) (sym c.rest-rest.ensures) ∙ sym c.in_ok-size.ensures.size) in
    let kind : kind_from (drop c.args.at c.args.units.now) (symbol_by (index_pool (drop c.args.at c.args.units.now)) c.args.indices.now) ≡ c.kind_of.result =
    ap (kind_from (drop c.args.at c.args.units.now)) (sym c.symbol_at-symbol.ensures.symbol) ∙ ap (λ ys. kind_from ys c.symbol_at-symbol.result.0) (sym c.rest-rest.ensures) ∙ sym c.kind_of.ensures in
    subst (λ left. ListsFirst c.args.units.now c.args.at c.args.indices.now (record { unit = c.args.at; units = c.in_ok-size.size; kind = c.kind_of.result }) left) (sym c.symbol_at-symbol.ensures.left)
    (subst (λ k. ListsFirst c.args.units.now c.args.at c.args.indices.now (record { unit = c.args.at; units = c.in_ok-size.size; kind = k }) (left_by (index_pool (drop c.args.at c.args.units.now)) c.args.indices.now)) kind more)
