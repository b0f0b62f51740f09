-- Of the code's inside, apart from the rules: the source with the edits of a run.
use Rattle.std.specs.Prelude.{◌≡◌, List, map, string_bytes}
use Rattle.source.specs.Scopes.{Scope}
use Rattle.taking.specs.Reasons.{Choice}
use Rattle.giving.specs.Staying.{Change}
use Rattle.commentwords.specs.Spoken.{spoken_in}
use Rattle.intake.specs.declared.taken.Taken.{Taken}
use Rattle.library.specs.declared.history.Entry.{Entry}
use Rattle.library.specs.Library.{Listed}
use Rattle.checking.specs.Checks.{Bytes}
use Rattle.givetext.specs.Parts.{IsEdited}
use Rattle.verifytext.specs.declared.verifying_text.Verified.{Verified}
use Rattle.verifytext.specs.Verdicts.{IsVerifiedText}
use Rattle.pasting.specs.Quotes.{Quotation}
use Rattle.dressing.specs.Dressed.{IsDressed}
use Rattle.editedsource.specs.Gone.{lost, spoken_line}
use Rattle.mentions.specs.Lines.{mention_lines}
use Rattle.mentions.specs.Vanished.{vanished}
use Rattle.editedsource.specs.declared.completing.Finished.{Finished}

-- it has the edits of a history over the library that was taken by a choice, with these proofs as they were given, and these descriptions
-- of what was added; it verifies, and where it speaks of what was deleted is told, and what it still mentions
pub record IsFinished (path source : Bytes) (old : Scope) (choice : Choice) (taken : Taken) (entries : List Entry) (edited : Listed)
    (quotations : List Quotation) (descriptions : List Change) (f : Finished) : Type 0 where
  pub edits : Bytes
  pub is_edited : IsEdited source old choice taken entries edited edits
  pub dressed : IsDressed quotations descriptions is_edited.followed edits f.out.items
  pub much : Verified
  pub verifies : IsVerifiedText f.out.items much
  pub spoken : map string_bytes f.spoken.items ≡ map (spoken_line path f.out.items) (spoken_in (lost is_edited.followed) f.out.items)
  pub mentions : map string_bytes f.mentions.items ≡ mention_lines f.out.items (vanished old is_edited.followed)
