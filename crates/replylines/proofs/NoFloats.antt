-- What a line says has no float, so its text is known.
use Rattle.std.proofs.Common.{◌≡◌, ◌||◌, ◌∙◌, ℕ, Bool, false, List, [], ◌∷◌, ◌++◌, map, refl, ap, append_assoc}
use Rattle.serde_json.specs.Data.{Data, string}
use Rattle.serde_json.specs.View.{items_of}
use Rattle.serde_json.specs.Written.{has_float, items_have_float, compact_text}
use Rattle.mmsyntax.specs.Tables.{Tables}
use Rattle.library.specs.declared.command.Command.{Command}
use Rattle.transaction.specs.declared.outcome.Outcome.{Outcome}
use Rattle.transaction.specs.declared.outcome.Outcome.TheVariants.{Committed, Read, Refused, Conflict, StoreFull, NumbersUsed, TooManyCommands, NoMemory}
use Rattle.replylines.specs.ReplyLines.{told_reply, reply_data, json_line}

-- a list of texts has none
texts_alone : {A : Type 0} (text : A → List ℕ) (xs : List A) → items_have_float (items_of (map (λ x. string (text x)) xs)) ≡ false
texts_alone text [] = refl
texts_alone text (x ∷ xs) = texts_alone text xs

-- nor has what became of a transaction
pub no_float : (written : Bool) (t : Tables) (path : List ℕ) (line : ℕ) (commands : List Command) (o : Outcome)
    → has_float (reply_data written t path line commands o) ≡ false
no_float written t path line commands (Committed n replies) = ap (λ b. b || false) (texts_alone (told_reply t) replies)
no_float written t path line commands (Read place replies) = ap (λ b. b || false) (texts_alone (told_reply t) replies)
no_float written t path line commands (Refused place index reason) = refl
no_float written t path line commands (Conflict place cell word before) = refl
no_float written t path line commands StoreFull = refl
no_float written t path line commands NumbersUsed = refl
no_float written t path line commands TooManyCommands = refl
no_float written t path line commands NoMemory = refl

-- the text of such a value and a line feed, behind others
pub line_behind : (d e : Data) (before text seen mid end : List ℕ) → d ≡ e → has_float e ≡ false
    → (has_float d ≡ false → text ≡ compact_text d) → seen ≡ text → mid ≡ before ++ seen → end ≡ mid ++ 10 ∷ []
    → end ≡ before ++ json_line e
line_behind d e before text seen mid end same alone says is_seen is_mid is_end =
    let told : seen ≡ compact_text e = is_seen ∙ says (ap has_float same ∙ alone) ∙ ap compact_text same in
    is_end ∙ ap (λ m. m ++ 10 ∷ []) (is_mid ∙ ap (λ w. before ++ w) told) ∙ append_assoc before (compact_text e) (10 ∷ [])
