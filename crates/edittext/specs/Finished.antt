-- Of the code's inside, apart from the rules: what is told of a run before the source with its edits is written.
use Rattle.std.specs.Prelude.{◌≡◌, Bool, List, [], Result, Ok, Err, map, string_bytes}
use Rattle.std.specs.Option.{option_map}
use Rattle.transaction.specs.declared.outcome.Outcome.{Outcome}
use Rattle.checking.specs.Checks.{Bytes}
use Rattle.editscripts.specs.Undone.{all_undone}
use Rattle.edittext.specs.Counts.{all_of, counted}
use Rattle.editscripts.specs.Replies.{replies_in, seen_replies, told_if}
use Rattle.editscripts.specs.Views.{beginnings_of}
use Rattle.editedsource.specs.declared.completing.Finished.{Finished}
use Rattle.editscripts.specs.declared.unedited.Unedited.{Unedited}
use Rattle.editscripts.specs.declared.unedited.Unedited.TheVariants as unedited
use Rattle.edittext.specs.declared.account.Account.{Account}
use Rattle.edittext.specs.declared.answering.Told.{Told}
use Rattle.edittext.specs.declared.answering.Told.TheVariants as told
use Rattle.editopening.specs.declared.beginning.Begun.{Begun as CodeBegun}

-- what is told of a run, before the source with its edits is written
pub record IsFirstAccount (paths texts : List Bytes) (b : CodeBegun) (rows : List (List Outcome)) (asked : Bool) (a : Account)
    : Type 0 where
  pub counts : a.counts ≡ counted (all_of rows)
  pub undone : map string_bytes a.undone.items ≡ all_undone paths texts (beginnings_of b.laid.items) b.opened.scripts.items rows
  pub none_spoken : a.spoken.items ≡ []
  pub none_mentioned : a.mentions.items ≡ []
  pub replies : option_map seen_replies a.replies ≡ told_if asked
      (replies_in b.taken.database.prelude paths texts (beginnings_of b.laid.items) b.opened.scripts.items rows)

-- what is answered behind a run, by how it finished
abbrev pub told_of : Account → Result Finished Unedited → Result Told Unedited
told_of a (Ok f) = Ok (told.Printed f.out (record a { spoken = f.spoken; mentions = f.mentions }))
told_of a (Err (unedited.Refused line)) = Ok (told.Unfinished a line)
told_of a (Err unedited.NoMemory) = Err unedited.NoMemory
