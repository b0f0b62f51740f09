-- The words of a script are ordinary, and lead through its rows.
use Rattle.std.proofs.Common.{◌≡◌, cond, List, [], ◌∷◌, ◌++◌, Ok, refl, sym, ap, ◌∙◌, append_assoc, append-nil}
use Rattle.std.specs.Prelude.{codes, All}
use Rattle.std.specs.Str.{bytes_eq}
use Rattle.mmtext.specs.declared.fault.FaultKind.TheVariants.{BadToken}
use Rattle.mmtext.specs.Text.{Token}
use Rattle.mmtext.specs.Words.{Word}
use Rattle.mmtext.specs.Comments.{words_of}
use Rattle.mmtext.specs.Languages.{fault}
use Rattle.walks.proofs.Walks.{walk, walk_ends, IsOrdinary}
use Rattle.mmsyntax.specs.Tables.{Tables}
use Rattle.library.specs.declared.command.Command.{Command}
use Rattle.scripts.specs.Scripts.{SpellsEach, SpellsTransaction}
use Rattle.scripts.specs.ScriptFaults.{outermost, at_command, within, Progress, Led, inside, whole_command, bad, bad_text, in_command}
use Rattle.scripts.specs.ScriptFaults.{command_word, at, led, begin_row, script_language}
use Rattle.scripts.proofs.ScriptRows.{Script, progress}
use Rattle.scripts.proofs.CommandWords.{each_ordinary, transaction_ordinary, next_of, Asking, and_one, Asks, takes, asked_words_lead}

pub script_ordinary : (t : Tables) (script : Script) (ws : List Word) → SpellsEach (SpellsTransaction t) script ws → All IsOrdinary ws
script_ordinary t script ws d = each_ordinary (SpellsTransaction t) (transaction_ordinary t) script ws d

-- ---- commands behind whole transactions

abbrev pub asking : Script → Asking Progress
asking s = record {
  between = λ cs. progress s (at_command cs);
  inner = λ cs p. progress s (within cs p);
  committed = λ cs. progress (s ++ cs ∷ []) outermost;
}

led_is : (s : Script) (cs : List Command) (u : Token) (next : Led)
    → led s cs u next ≡ next_of ((asking s).inner cs) (and_one (asking s) cs) u next
led_is s cs u (inside p) = refl
led_is s cs u (whole_command c) = refl
led_is s cs u (bad kind) = refl
led_is s cs u (bad_text f) = refl

pub asks : (t : Tables) (s : Script) → Asks (script_language t) t (asking s)
asks t s = record {
  words = λ cs u.
      ap (λ x. cond (bytes_eq u.text (codes "commit")) (at (s ++ cs ∷ []) outermost) x) (led_is s cs u (command_word t u.text));
  commands = λ cs p u. led_is s cs u (in_command t p u);
}

-- ---- the words of transactions lead behind them

begins : (s : Script) (u : Token) → u.text ≡ codes "begin" → begin_row s u ≡ at s (at_command [])
begins s u e = ap (λ w. cond (bytes_eq w (codes "begin")) (at s (at_command [])) (fault u BadToken)) e

pub script_leads : (t : Tables) (done todo : Script) (ws : List Word) (ts : List Token) → SpellsEach (SpellsTransaction t) todo ws
    → words_of ts ≡ ws → walk (script_language t) (progress done outermost) ts ≡ Ok (progress (done ++ todo) outermost)
script_leads t done [] ws [] d e =
    walk_ends (script_language t) (progress done outermost) ∙ ap (λ s. Ok (progress s outermost)) (sym (append-nil done))
script_leads t done [] ws (u ∷ us) d e = absurd (let x : words_of (u ∷ us) ≡ [] = e ∙ d in cc)
script_leads t done (cs ∷ todo) ws ts d e =
    let l = script_language t in
    let inner = d.3.0 in
    let words : words_of ts ≡ codes "begin" ∷ (inner ++ codes "commit" ∷ d.1) = e ∙ d.2 ∙ ap (λ x. x ++ d.1) d.3.2
    ∙ ap (λ x. codes "begin" ∷ x) (append_assoc inner (codes "commit" ∷ []) d.1) in
    takes l (progress done outermost) (progress done (at_command [])) (codes "begin") (inner ++ codes "commit" ∷ d.1) ts
    (Ok (progress (done ++ cs ∷ todo) outermost)) words (begins done) (λ ts1 h1.
    asked_words_lead l t (asking done) (asks t done) cs inner d.1 ts1 (Ok (progress (done ++ cs ∷ todo) outermost)) d.3.1 h1 (λ rest o.
    script_leads t (done ++ cs ∷ []) todo d.1 rest d.4 o ∙ ap (λ x. Ok (progress x outermost)) (append_assoc done (cs ∷ []) todo)))
