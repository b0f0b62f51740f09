-- What became of each transaction of scripts.
use Rattle.std.specs.Prelude.{ℕ, suc, Bool, true, false, List, [], map, slice_index_or}
use Rattle.std.specs.Prelude.{Option, Some, None, if◌then◌else◌}
use Rattle.mmsyntax.specs.Tables.{Tables}
use Rattle.transaction.specs.declared.outcome.Outcome.{Outcome}
use Rattle.checking.specs.Checks.{Bytes, Orders}
use Rattle.replylines.specs.ReplyLines.{reply_line}
use Rattle.locating.specs.Lines.{line_at}
use Rattle.editscripts.specs.Undone.{each_from}
use Rattle.editscripts.specs.declared.replying.Replies.{Replies as CodeReplies}

-- those of a script, which begin on these lines; and whether the database with the edits was written
abbrev pub replies_of : Bool → Tables → Bytes → List ℕ → Orders → List Outcome → Bytes
replies_of written t path lines script outcomes =
    each_from (λ k outcome. reply_line written t path (slice_index_or lines k 0) (slice_index_or script k []) outcome) 0 outcomes

-- those of the scripts, whose transactions begin at these places; in front of their paths stands that of the source
abbrev pub all_replies : Bool → Tables → List Bytes → List Bytes → List (List ℕ) → List Orders → List (List Outcome) → Bytes
all_replies written t paths texts beginnings scripts rows =
    each_from (λ n row. replies_of written t (slice_index_or paths (suc n) [])
    (map (line_at (slice_index_or texts n [])) (slice_index_or beginnings n [])) (slice_index_or scripts n []) row) 0 rows

-- what became of each transaction, where the database with the edits is written, and where it isn't
pub record Replies : Type 0 where
  pub written : Bytes
  pub unwritten : Bytes

abbrev pub replies_in : Tables → List Bytes → List Bytes → List (List ℕ) → List Orders → List (List Outcome) → Replies
replies_in t paths texts beginnings scripts rows = record {
  written = all_replies true t paths texts beginnings scripts rows;
  unwritten = all_replies false t paths texts beginnings scripts rows;
}

-- it is told where that is asked for
abbrev pub told_if : Bool → Replies → Option Replies
told_if asked replies = if asked then Some replies else None

-- as the code has it
abbrev pub seen_replies : CodeReplies → Replies
seen_replies r = record { written = r.written.items; unwritten = r.unwritten.items }
