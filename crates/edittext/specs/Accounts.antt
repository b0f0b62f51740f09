-- What is told of a run of scripts: how many transactions were done, which weren't, of which labels that are gone a comment speaks, which
-- ones it mentions, and what became of each transaction.
use Rattle.std.specs.Prelude.{◌≡◌, ℕ, Bool, List, map, string_bytes}
use Rattle.std.specs.Option.{option_map}
use Rattle.commentwords.specs.Spoken.{spoken_in}
use Rattle.transaction.specs.declared.outcome.Outcome.{Outcome}
use Rattle.checking.specs.Checks.{Bytes}
use Rattle.jobs.specs.Jobs.{Room}
use Rattle.editopening.specs.Opening.{taken_of, scripts_of}
use Rattle.edittext.specs.Edited.{Run, IsEditedBy}
use Rattle.editscripts.specs.Undone.{all_undone}
use Rattle.edittext.specs.declared.account.Account.{Account}
use Rattle.editscripts.specs.Replies.{Replies, replies_in, seen_replies, told_if}
use Rattle.editedsource.specs.Gone.{lost, spoken_line}
use Rattle.mentions.specs.Lines.{mention_lines}
use Rattle.mentions.specs.Vanished.{vanished}
use Rattle.edittext.specs.Counts.{all_of, counted}

-- ---- what became of each transaction

-- ---- of a run

-- where the transactions of its scripts begin
abbrev pub beginnings_in : {source : Bytes} {texts : List Bytes} {workers : ℕ} {room : Room} {rows : List (List Outcome)}
    → Run source texts workers room rows → List (List ℕ)
beginnings_in run = map (λ out. out.beginnings) run.begun.with_ranks.ranked

-- the lines of the transactions that weren't done
abbrev pub undone_by : {source : Bytes} {texts : List Bytes} {workers : ℕ} {room : Room} {rows : List (List Outcome)}
    → List Bytes → Run source texts workers room rows → List Bytes
undone_by {texts} {rows} paths run = all_undone paths texts (beginnings_in run) (scripts_of run.begun) rows

-- what became of each
abbrev pub replies_by : {source : Bytes} {texts : List Bytes} {workers : ℕ} {room : Room} {rows : List (List Outcome)}
    → List Bytes → Run source texts workers room rows → Replies
replies_by {texts} {rows} paths run =
    replies_in (taken_of run.begun).database.prelude paths texts (beginnings_in run) (scripts_of run.begun) rows

-- ---- labels that are gone

abbrev pub spoken_by : {source : Bytes} {texts : List Bytes} {workers : ℕ} {room : Room} {rows : List (List Outcome)} {out : Bytes}
    → Bytes → IsEditedBy source texts workers room rows out → List Bytes
spoken_by {out} path edited = map (spoken_line path out) (spoken_in (lost edited.source_then.followed) out)

-- the lines that say which labels of the source that no assertion has any more its comments still mention
abbrev pub mentions_by : {source : Bytes} {texts : List Bytes} {workers : ℕ} {room : Room} {rows : List (List Outcome)} {out : Bytes}
    → IsEditedBy source texts workers room rows out → List Bytes
mentions_by {out} edited = mention_lines out (vanished edited.run.begun.old edited.source_then.followed)

-- ---- all of it

-- of this run, whose source with the edits has these lines of labels that comments speak of, and these of labels that they mention

pub record IsAccount {source : Bytes} {texts : List Bytes} {workers : ℕ} {room : Room} {rows : List (List Outcome)}
    (paths : List Bytes) (run : Run source texts workers room rows) (asked : Bool) (told mentions : List Bytes) (a : Account)
    : Type 0 where
  pub counts : a.counts ≡ counted (all_of rows)
  pub undone : map string_bytes a.undone.items ≡ undone_by paths run
  pub spoken : map string_bytes a.spoken.items ≡ told
  pub mentioned : map string_bytes a.mentions.items ≡ mentions
  pub replies : option_map seen_replies a.replies ≡ told_if asked (replies_by paths run)
