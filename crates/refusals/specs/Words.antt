-- The words that layers and refusals are printed with. Assumes nothing.
use Rattle.std.specs.Prelude.{ℕ, List, ◌++◌, codes}
use Rattle.std.specs.Fmt.{decimal}
use Rattle.refusals.specs.declared.Layer.{Layer}
use Rattle.refusals.specs.declared.Layer.TheVariants.{Day, Book, Holding, Funds}
use Rattle.refusals.specs.declared.Refusal.{Refusal}
use Rattle.refusals.specs.Told.{told}

-- each layer by one word
abbrev pub layer_word : Layer → List ℕ
layer_word Day = codes "day"
layer_word Book = codes "book"
layer_word Holding = codes "holding"
layer_word Funds = codes "funds"

-- that it is a refusal, and then its number, its layer and its place, a space before each
abbrev pub refusal_text : Refusal → List ℕ
refusal_text refusal =
    codes "refused " ++ decimal (told refusal).number ++ codes " " ++ layer_word (told refusal).layer ++ codes " " ++ decimal (told refusal).place
