-- Of the code's inside, apart from the rules: what is told where something of a draft is refused.
use Rattle.drafts.specs.declared.refusal.Refusal.{Refusal}
use Rattle.drafts.specs.declared.refusal.Refusal.TheVariants.{Unlawful as RefusedAsUnlawful, NoMemory as RefusedForMemory}
use Rattle.drafts.specs.declared.draft.Undeclared.{Undeclared}
use Rattle.drafts.specs.declared.draft.Undeclared.TheVariants.{Unlawful, NoMemory}

abbrev pub told_of : Refusal → Undeclared
told_of RefusedAsUnlawful = Unlawful
told_of RefusedForMemory = NoMemory
