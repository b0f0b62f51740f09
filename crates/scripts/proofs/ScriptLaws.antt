-- What the reader of scripts gives is what the text spells, and is within the limits.
use Rattle.std.proofs.Common.{◌≡◌, ℕ, suc, ◌≤◌, true, false, List, [], ◌∷◌, ◌++◌, length, Some, Ok}
use Rattle.std.proofs.Common.{Err, refl, sym, ap, subst, ◌∙◌, arith, leb-false, length-append}
use Rattle.std.specs.Prelude.{All, codes, IfOk, Result}
use Rattle.std.specs.List.{AllByRecursion}
use Rattle.std.proofs.lemmas.List.Elements.{All-append, All-nil, All-cons}
use Rattle.mmtext.specs.declared.fault.TextFault.{TextFault}
use Rattle.mmtext.specs.Text.{tokens, IsClean}
use Rattle.mmtext.specs.Words.{Word}
use Rattle.mmtext.specs.Languages.{run, ended, token_reading}
use Rattle.mmtext.specs.Laws.{IsGrammarOf, IsRead}
use Rattle.walks.proofs.Walks.{here, walks_outside, runs_all}
use Rattle.mmsyntax.specs.declared.statement.Step.{Step}
use Rattle.mmsyntax.specs.declared.statement.Assertion.{Assertion}
use Rattle.mmsyntax.specs.Tables.{Tables}
use Rattle.mmsyntax.specs.Rows.{prelude_alone}
use Rattle.mmsyntax.specs.Grammar.{Statement, spelling}
use Rattle.mmsyntax.specs.Layout.{IsSoundPrelude}
use Rattle.mmsyntax.specs.Assertions.{CitesApart, Fits, IsUnit}
use Rattle.mmsyntax.proofs.Distinct.{all_left, all_right}
use Rattle.mmsyntax.proofs.Lines.{IsWord, clean_words}
use Rattle.mmsyntax.proofs.Sound.{alone_sound}
use Rattle.mmsyntax.proofs.Units.{statement_sound, closed_tables}
use Rattle.mmsyntax.proofs.Canonical.{sound_tables}
use Rattle.statementreader.proofs.UnitLaws.{ended_ok}
use Rattle.library.specs.declared.command.Command.{Command}
use Rattle.library.specs.declared.command.Command.TheVariants as command
use Rattle.library.specs.Fitting.{CommandFits}
use Rattle.scripts.specs.Scripts.{OtherSteps, DeclaresAlone, SpellsCommand, SpellsEach, SpellsTransaction, SpellsScript}
use Rattle.scripts.specs.ScriptFaults.{Place, outermost, at_command, within, whole, script_language}
use Rattle.scripts.proofs.ScriptRows.{Script, progress, step_passes, step_apart}
use Rattle.scripts.proofs.ScriptWords.{script_ordinary, script_leads}
use Rattle.scripts.proofs.ScriptParsed.{reads_script}

-- ---- what is read is spelled

whole_ok : (s : Script) (place : Place) (script : Script) → whole s place ≡ Some script → (place ≡ outermost) × (s ≡ script)
whole_ok s outermost script h = (refl, cc)
whole_ok s (at_command commands) script h = absurd cc
whole_ok s (within commands p) script h = absurd cc

token_found : (t : Tables) (bytes : List ℕ) (script : Script) → IsClean bytes → token_reading (script_language t) bytes ≡ Ok script
    → SpellsScript t bytes script
unfolding token_reading
token_found t bytes script clean h =
    let l = script_language t in
    let f = ended_ok l (length bytes) (run l (here (progress [] outermost) false) (tokens bytes)) script h in
    let final = f.0 in
    let w = whole_ok final.script final.place script f.2 in
    let o = walks_outside l false (progress [] outermost) final (tokens bytes) f.1 in
    let r = reads_script (suc (length o.kept)) t [] o.kept final (omega arith) w.0 o.walks in
    let same : r.script ≡ script = sym r.whole ∙ w.1 in
    subst (λ s. SpellsScript t bytes s) same
    (record { clean = clean; words = _; words_are = o.words_are; transactions = r.transactions })

-- ---- what is spelled is read

token_spelled : (t : Tables) (bytes : List ℕ) (script : Script) → SpellsScript t bytes script
    → token_reading (script_language t) bytes ≡ Ok script
unfolding token_reading
token_spelled t bytes script s =
    let l = script_language t in
    let r = runs_all l false (tokens bytes) s.words (script_ordinary t script s.words s.transactions) s.words_are in
    ap (ended l (length bytes))
    (r.runs (progress [] outermost) (progress script outermost) (script_leads t [] script s.words r.kept s.transactions r.words_are))

-- what is spelled is what the language says
pub script_grammar : (t : Tables) → IsGrammarOf (script_language t) (SpellsScript t)
script_grammar t bytes script = (λ s. (s.clean, token_spelled t bytes script s), λ h. token_found t bytes script h.0 h.1)

-- ---- what is spelled is within the limits

-- an assertion that is declared alone fits
pub unit_fits : (t : Tables) (st : Statement) (a : Assertion) → IsSoundPrelude t → AllByRecursion IsWord (spelling st)
    → DeclaresAlone t st a
    → Fits t a
unit_fits t st a sound words d =
    let before = alone_sound t true (sound_tables t sound) in
    let s = statement_sound (prelude_alone t) st d.0 before words d.1 in
    let same : t ≡ d.0.tables = closed_tables (prelude_alone t) st d.0 refl before d.1 in
    let units = subst (AllByRecursion (IsUnit d.0.tables)) d.2 s.units in
    (subst (λ x. IsUnit x a) (sym same) units.0).fits

few_steps : (t : Tables) (label : Word) (front : List Step) (ws : List Word) (steps : List Step) → length front ≤ 16384
    → OtherSteps t label front ws steps → length steps ≤ 16384
few_steps t label front [] steps h d = subst (λ x. length x ≤ 16384) d h
few_steps t label front (w ∷ ws) steps h d =
    let lt = leb-false 16384 (length front) (step_passes t label w (length front) d.0 d.1).room in
    few_steps t label (front ++ d.0 ∷ []) ws steps (omega (arith, length-append front (d.0 ∷ []))) d.2

steps_apart : (t : Tables) (label : Word) (front : List Step) (ws : List Word) (steps : List Step) → All (CitesApart label) front
    → OtherSteps t label front ws steps → All (CitesApart label) steps
steps_apart t label front [] steps h d = subst (All (CitesApart label)) d h
steps_apart t label front (w ∷ ws) steps h d =
    let P = CitesApart label in
    let one = All-cons P d.0 [] (step_apart t label w (length front) d.0 d.1) (All-nil P) in
    steps_apart t label (front ++ d.0 ∷ []) ws steps (All-append P front (d.0 ∷ []) h one) d.2

command_fits : (t : Tables) → IsSoundPrelude t → (c : Command) (ws : List Word) → AllByRecursion IsWord ws → SpellsCommand t c ws
    → CommandFits t c
command_fits t sound (command.Add rank a) ws words d =
    let number = d.4 in
    let unit = number.4 in
    let all = all_right IsWord d.0 d.1 (subst (AllByRecursion IsWord) d.2 words) in
    let last = all_right IsWord number.0 number.1 (subst (AllByRecursion IsWord) number.2 all) in
    let said = subst (AllByRecursion IsWord) unit.3.2 (all_left IsWord unit.0 unit.1 (subst (AllByRecursion IsWord) unit.2 last)) in
    (number.3.1.small, unit_fits t unit.3.0 a sound said unit.3.1)
command_fits t sound (command.Reprove label steps) ws words d =
    let s = d.4.4.3 in
    (few_steps t label [] s.0 steps (omega arith) s.2, steps_apart t label [] s.0 steps (All-nil (CitesApart label)) s.2)
command_fits t sound (command.Move label rank) ws words d = d.4.4.3.1.small
command_fits t sound c ws words d = tt

-- what holds of each item that words spell, holds of all
pub each_fits : {A : Type 0} (spells : A → List Word → Type 0) (P : A → Type 0)
    → ((x : A) (ws : List Word) → AllByRecursion IsWord ws → spells x ws → P x) → (xs : List A) (ws : List Word)
    → AllByRecursion IsWord ws → SpellsEach spells xs ws → All P xs
each_fits spells P one [] ws words d = All-nil P
each_fits spells P one (x ∷ xs) ws words d =
    let all = subst (AllByRecursion IsWord) d.2 words in
    All-cons P x xs (one x d.0 (all_left IsWord d.0 d.1 all) d.3) (each_fits spells P one xs d.1 (all_right IsWord d.0 d.1 all) d.4)

pub transaction_fits : (t : Tables) → IsSoundPrelude t → (commands : List Command) (ws : List Word) → AllByRecursion IsWord ws
    → SpellsTransaction t commands ws → All (CommandFits t) commands
transaction_fits t sound commands ws words d =
    let all = subst (AllByRecursion IsWord) d.2 words in
    each_fits (SpellsCommand t) (CommandFits t) (command_fits t sound) commands d.0 (all_left IsWord d.0 (codes "commit" ∷ []) all.1) d.1

pub script_fits : (t : Tables) (bytes : List ℕ) (script : Script) → IsSoundPrelude t → SpellsScript t bytes script
    → All (λ commands. All (CommandFits t) commands) script
script_fits t bytes script sound s =
    each_fits (SpellsTransaction t) (λ commands. All (CommandFits t) commands) (transaction_fits t sound) script s.words
    (clean_words bytes s.words s.clean s.words_are) s.transactions

-- so are those that are read
pub read_fits : (t : Tables) (bytes : List ℕ) (r : Result Script TextFault) → IsSoundPrelude t
    → IsRead (script_language t) (SpellsScript t) bytes r → IfOk r (λ script. All (λ commands. All (CommandFits t) commands) script)
read_fits t bytes (Ok script) sound h = script_fits t bytes script sound h.found
read_fits t bytes (Err f) sound h = tt
