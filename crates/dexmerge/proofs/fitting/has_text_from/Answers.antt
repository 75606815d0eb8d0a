use Rattle.std.proofs.Common.{rules}
use Rattle.dexmerge.proofs.Common.{◌≡◌, ◌∙◌, length, sym, ltb-false}
use Rattle.dexmerge.specs.{classes_of, is_from}
use Rattle.dexmerge.proofs.FarTexts.{few_texts}
use Rattle.dexmerge.proofs.fitting.has_text_from.Goals as goal
use Rattle.dexmerge.proofs.fitting.has_text_from.Goals.{After-is_some_and}

pub returns-then-not-has_more : goal.returns-then-not-has_more
returns-then-not-has_more c =
    sym (few_texts c.args.numbering.now (classes_of c.args.classes.now) c.args.cap c.requires.known (ltb-false c.args.cap (length c.args.numbering.now.texts) (sym c.has_more.ensures ∙ c.if-not-has_more.true)))

-- whether the greatest is not below the cap
from_is : (c : After-is_some_and) → c.is_some_and.result ≡ is_from c.args.cap c.greatest_short_string.result
from_is c = search rules

pub returns : goal.returns
returns c = from_is (goal.at.returns c).After-is_some_and ∙ sym (c.greatest_short_string.ensures c.args.cap)
