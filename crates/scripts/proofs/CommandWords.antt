-- Commands within another language: their words are ordinary, and lead behind them.
use Rattle.std.proofs.Common.{◌≡◌, ◌≢◌, false, cond, List, [], ◌∷◌, ◌++◌, length, Option, Some, None}
use Rattle.std.proofs.Common.{Result, Ok, Err, refl, sym, ap, subst, ◌∙◌, ◌⊎◌, inl, inr, append_assoc, append-nil}
use Rattle.std.specs.Prelude.{codes, All}
use Rattle.std.specs.Str.{bytes_eq}
use Rattle.std.proofs.lemmas.Bool.{cond-false}
use Rattle.std.proofs.lemmas.List.Elements.{All-nil, All-cons, All-append}
use Rattle.mmtext.specs.declared.fault.TextFault.{TextFault}
use Rattle.mmtext.specs.Text.{Token, mark_of}
use Rattle.mmtext.specs.Words.{Word, has_dollar}
use Rattle.mmtext.specs.Comments.{words_of}
use Rattle.mmtext.specs.Languages.{Language, fault}
use Rattle.walks.proofs.Walks.{walk, walk_step, IsOrdinary, plain_is_ordinary}
use Rattle.mmsyntax.specs.declared.statement.Step.{Step}
use Rattle.mmsyntax.specs.declared.statement.Assertion.{Assertion}
use Rattle.mmsyntax.specs.Tables.{Tables}
use Rattle.mmsyntax.specs.Rows.{prelude_alone}
use Rattle.mmsyntax.specs.Faults.{Position, row, unit_at}
use Rattle.statementreader.proofs.Keywords.{end_mark, proof_mark, mark_plain}
use Rattle.statementreader.proofs.Ordinary.{statement_ordinary}
use Rattle.library.specs.declared.command.Command.{Command}
use Rattle.scripts.specs.Scripts.{OtherSteps, Part, a_word, a_rank, a_unit, a_proof, parts, SpellsPart, SpellsCommand, SpellsEach}
use Rattle.scripts.specs.Scripts.{SpellsTransaction, other_step_of}
use Rattle.scripts.specs.ScriptFaults.{CommandPlace, at_end, at_label, at_rank, in_unit, at_proof, in_proof, Led, inside, whole_command}
use Rattle.scripts.specs.ScriptFaults.{bad, bad_text, to, unit_led, unit_row, proof_start, step_led, step_row, in_command}
use Rattle.scripts.specs.ScriptFaults.{behind_verb, verb_row, command_word}
use Rattle.scripts.proofs.ScriptRows.{rank_plain, step_passes, label_led, rank_led, step_end, step_plain, Makes, begins}
use Rattle.scripts.proofs.InnerUnits.{unit_end, unit_next, HasUnits, unit_words_lead}

-- ---- the words are ordinary

pub plain_cons : (w : Word) (ws : List Word) → has_dollar w ≡ false → All IsOrdinary ws → All IsOrdinary (w ∷ ws)
plain_cons w ws h rest = All-cons IsOrdinary w ws (plain_is_ordinary w h) rest

keywords : IsOrdinary (codes "$=") × IsOrdinary (codes "$.")
unfolding mark_of
keywords = (refl, refl)

steps_ordinary : (t : Tables) (label : Word) (front : List Step) (ws : List Word) (steps : List Step) → OtherSteps t label front ws steps
    → All IsOrdinary (ws ++ codes "$." ∷ [])
steps_ordinary t label front [] steps d = All-cons IsOrdinary (codes "$.") [] keywords.1 (All-nil IsOrdinary)
steps_ordinary t label front (w ∷ ws) steps d =
    plain_cons w (ws ++ codes "$." ∷ []) (step_passes t label w (length front) d.0 d.1).plain
    (steps_ordinary t label (front ++ d.0 ∷ []) ws steps d.2)

part_ordinary : (t : Tables) (p : Part) (ws : List Word) → SpellsPart t p ws → All IsOrdinary ws
part_ordinary t (a_word w) ws d = subst (All IsOrdinary) (sym d.1) (plain_cons w [] d.0 (All-nil IsOrdinary))
part_ordinary t (a_rank rank) ws d = subst (All IsOrdinary) (sym d.2) (plain_cons d.0 [] (rank_plain d.0 rank d.1) (All-nil IsOrdinary))
part_ordinary t (a_unit a) ws d = subst (All IsOrdinary) (sym d.2) (statement_ordinary (prelude_alone t) d.0 d.1.0 d.1.1)
part_ordinary t (a_proof label steps) ws d =
    subst (All IsOrdinary) (sym d.3)
    (All-cons IsOrdinary (codes "$=") (d.0 ++ codes "$." ∷ []) keywords.0 (steps_ordinary t label [] d.0 steps d.2))

pub each_ordinary : {A : Type 0} (spells : A → List Word → Type 0) → ((x : A) (ws : List Word) → spells x ws → All IsOrdinary ws)
    → (xs : List A) (ws : List Word) → SpellsEach spells xs ws → All IsOrdinary ws
each_ordinary spells one [] ws d = subst (All IsOrdinary) (sym d) (All-nil IsOrdinary)
each_ordinary spells one (x ∷ xs) ws d =
    subst (All IsOrdinary) (sym d.2) (All-append IsOrdinary d.0 d.1 (one x d.0 d.3) (each_ordinary spells one xs d.1 d.4))

pub command_ordinary : (t : Tables) (c : Command) (ws : List Word) → SpellsCommand t c ws → All IsOrdinary ws
command_ordinary t c ws d = each_ordinary (SpellsPart t) (part_ordinary t) (parts c) ws d

pub transaction_ordinary : (t : Tables) (commands : List Command) (ws : List Word) → SpellsTransaction t commands ws → All IsOrdinary ws
transaction_ordinary t commands ws d =
    subst (All IsOrdinary) (sym d.2)
    (plain_cons (codes "begin") (d.0 ++ codes "commit" ∷ []) refl
    (All-append IsOrdinary d.0 (codes "commit" ∷ []) (each_ordinary (SpellsCommand t) (command_ordinary t) commands d.0 d.1)
    (plain_cons (codes "commit") [] refl (All-nil IsOrdinary))))

-- ---- rows

-- where a language goes on whose places in a command are `inner`, and that is at `behind` behind it
abbrev pub next_of : {P : Type 0} → (CommandPlace → P) → (Command → P) → Token → Led → Result P TextFault
next_of inner behind u (inside p) = Ok (inner p)
next_of inner behind u (whole_command c) = Ok (behind c)
next_of inner behind u (bad kind) = fault u kind
next_of inner behind u (bad_text f) = Err f

-- the language goes so at each of these places
abbrev pub HasCommands : {P A : Type 0} → Language P A → Tables → (CommandPlace → P) → (Command → P) → Type 0
HasCommands l t inner behind = (p : CommandPlace) (u : Token) → l.row (inner p) u ≡ next_of inner behind u (in_command t p u)

-- commands up to commit: the places between them, in them, and behind commit
pub record Asking (P : Type 0) : Type 0 where
  pub between : List Command → P
  pub inner : List Command → CommandPlace → P
  pub committed : List Command → P

-- behind whole commands, and one more
abbrev pub and_one : {P : Type 0} → Asking P → List Command → Command → P
and_one a cs c = a.between (cs ++ c ∷ [])

-- at a place in one more, or behind it
abbrev pub stands : {P : Type 0} → Asking P → List Command → CommandPlace → P
stands a cs (at_end c) = and_one a cs c
stands a cs p = a.inner cs p

pub stands_is : {P : Type 0} (a : Asking P) (cs : List Command) (u : Token) (p : CommandPlace)
    → next_of (a.inner cs) (and_one a cs) u (to p) ≡ Ok (stands a cs p)
stands_is a cs u (at_end c) = refl
stands_is a cs u p = refl

-- the row between commands, at a word
abbrev pub word_row : {P : Type 0} → Tables → Asking P → List Command → Token → Word → Result P TextFault
word_row t a cs u w = cond (bytes_eq w (codes "commit")) (Ok (a.committed cs)) (next_of (a.inner cs) (and_one a cs) u (command_word t w))

-- a language goes so
pub record Asks {P A : Type 0} (l : Language P A) (t : Tables) (a : Asking P) : Type 0 where
  pub words : (cs : List Command) (u : Token) → l.row (a.between cs) u ≡ word_row t a cs u u.text
  pub commands : (cs : List Command) → HasCommands l t (a.inner cs) (and_one a cs)

pub has_units : {P A : Type 0} (l : Language P A) (t : Tables) (inner : CommandPlace → P) (behind : Command → P)
    → HasCommands l t inner behind → (made : Assertion → Command) → HasUnits l (λ p. inner (in_unit made p)) (λ a. behind (made a))
has_units {P} l t inner behind has made p u = has (in_unit made p) u ∙ by_row (row p u)
  where
    by_end : (q : Position) (o : Option Assertion)
        → next_of inner behind u (unit_led made q o) ≡ unit_end (λ x. inner (in_unit made x)) (λ a. behind (made a)) q o
    by_end q None = refl
    by_end q (Some a) = refl

    by_row : (r : Result Position TextFault)
        → next_of inner behind u (unit_row made r) ≡ unit_next (λ x. inner (in_unit made x)) (λ a. behind (made a)) r
    by_row (Ok q) = by_end q (unit_at q.known q.place)
    by_row (Err f) = refl

-- ---- one word, then the others

pub takes : {P A : Type 0} (l : Language P A) (p q : P) (w : Word) (ws : List Word) (ts : List Token) (final : Result P TextFault)
    → words_of ts ≡ w ∷ ws → ((u : Token) → u.text ≡ w → l.row p u ≡ Ok q)
    → ((rest : List Token) → words_of rest ≡ ws → walk l q rest ≡ final) → walk l p ts ≡ final
takes l p q w ws [] final h is next = absurd cc
takes l p q w ws (u ∷ us) final h is next =
    let text_is : u.text ≡ w = cc in
    let rest_is : words_of us ≡ ws = cc in
    walk_step l p q u us (is u text_is) ∙ next us rest_is

-- ---- the words of a command lead behind it

module _ {P A : Type 0} (l : Language P A) (t : Tables) (a : Asking P) (asks : Asks l t a) where
  -- what follows a command
  abbrev Goes : List Command → Command → List Word → Result P TextFault → Type 0
  Goes cs c ws final = (rest : List Token) → words_of rest ≡ ws → walk l (and_one a cs c) rest ≡ final

  -- a row of a place in it
  within : (cs : List Command) (p : CommandPlace) (next : Led) (u : Token) → in_command t p u ≡ next
      → l.row (a.inner cs p) u ≡ next_of (a.inner cs) (and_one a cs) u next
  within cs p next u is = asks.commands cs p u ∙ ap (next_of (a.inner cs) (and_one a cs) u) is

  steps_lead : (cs : List Command) (label : Word) (made : List Step → Command) (front : List Step) (ws : List Word) (steps : List Step)
      (ts : List Token) (more : List Word) (final : Result P TextFault) → OtherSteps t label front ws steps → (front ≢ []) ⊎ (ws ≢ [])
      → words_of ts ≡ ws ++ codes "$." ∷ more → Goes cs (made steps) more final
      → walk l (a.inner cs (in_proof label made front)) ts ≡ final
  steps_lead cs label made front [] steps ts more final d n h next =
      let some : front ≢ [] = elim n [ inl y ↦ y | inr f ↦ absurd (f refl) ] in
      takes l (a.inner cs (in_proof label made front)) (and_one a cs (made front)) (codes "$.") more ts final h
      (λ u e. within cs (in_proof label made front) (whole_command (made front)) u
      (ap (step_row t label made front u) (ap mark_of e ∙ end_mark) ∙ step_end t label made front u some))
      (λ rest o. ap (λ x. walk l (and_one a cs (made x)) rest) d ∙ next rest o)
  steps_lead cs label made front (w ∷ ws) steps ts more final d n h next =
      takes l (a.inner cs (in_proof label made front)) (a.inner cs (in_proof label made (front ++ d.0 ∷ []))) w
      (ws ++ codes "$." ∷ more) ts final h
      (λ u e.
      let read : other_step_of t label (length front) u.text ≡ Ok d.0 = ap (other_step_of t label (length front)) e ∙ d.1 in
      let plain = (step_passes t label u.text (length front) d.0 read).plain in
      within cs (in_proof label made front) (inside (in_proof label made (front ++ d.0 ∷ []))) u
      (ap (step_row t label made front u) (mark_plain u.text plain) ∙ step_plain t label made front u
      ∙ ap (step_led label made front) read))
      (λ rest o. steps_lead cs label made (front ++ d.0 ∷ []) ws steps rest more final d.2 (inl (some_more front d.0)) o next)
    where
      some_more : {A : Type 0} (xs : List A) (x : A) → (xs ++ x ∷ []) ≢ []
      some_more [] x = λ h. absurd cc
      some_more (y ∷ xs) x = λ h. absurd cc

  -- the words of parts lead from a place to the command that they make
  parts_lead : (cs : List Command) (p : CommandPlace) (ps : List Part) (c : Command) (us ws : List Word) (ts : List Token)
      (final : Result P TextFault) → Makes t p ps c → SpellsEach (SpellsPart t) ps us → words_of ts ≡ us ++ ws → Goes cs c ws final
      → walk l (stands a cs p) ts ≡ final
  parts_lead cs (at_end x) [] c us ws ts final m d h next =
      ap (λ y. walk l (and_one a cs y) ts) m ∙ next ts (h ∙ ap (λ y. y ++ ws) d)
  parts_lead cs (at_label behind) (a_word w ∷ ps) c us ws ts final m d h next =
      takes l (a.inner cs (at_label behind)) (stands a cs (behind w)) w (d.1 ++ ws) ts final
      (h ∙ ap (λ y. y ++ ws) d.2 ∙ ap (λ y. (y ++ d.1) ++ ws) d.3.1)
      (λ u e. within cs (at_label behind) (to (behind w)) u (label_led u w behind d.3.0 e) ∙ stands_is a cs u (behind w))
      (λ rest o. parts_lead cs (behind w) ps c d.1 ws rest final m d.4 o next)
  parts_lead cs (at_rank behind) (a_rank n ∷ ps) c us ws ts final m d h next =
      takes l (a.inner cs (at_rank behind)) (stands a cs (behind n)) d.3.0 (d.1 ++ ws) ts final
      (h ∙ ap (λ y. y ++ ws) d.2 ∙ ap (λ y. (y ++ d.1) ++ ws) d.3.2)
      (λ u e. within cs (at_rank behind) (to (behind n)) u (rank_led u d.3.0 n behind d.3.1 e) ∙ stands_is a cs u (behind n))
      (λ rest o. parts_lead cs (behind n) ps c d.1 ws rest final m d.4 o next)
  parts_lead cs (in_unit made p) (a_unit b ∷ []) c us ws ts final m d h next =
      ap (λ y. walk l (a.inner cs (in_unit made y)) ts) m.0
      ∙ unit_words_lead l t (λ y. a.inner cs (in_unit made y)) (λ x. and_one a cs (made x))
      (has_units l t (a.inner cs) (and_one a cs) (asks.commands cs) made) d.3.0 b ws ts final d.3.1
      (h ∙ ap (λ y. y ++ ws) (d.2 ∙ ap (λ y. d.0 ++ y) d.4 ∙ append-nil d.0 ∙ d.3.2))
      (λ rest o. ap (λ y. walk l (and_one a cs y) rest) m.1 ∙ next rest o)
  parts_lead cs (at_proof label made) (a_proof other steps ∷ []) c us ws ts final m d h next =
      let s = d.3 in
      takes l (a.inner cs (at_proof label made)) (a.inner cs (in_proof label made [])) (codes "$=") (s.0 ++ codes "$." ∷ ws) ts final
      (h ∙ ap (λ y. y ++ ws) (d.2 ∙ ap (λ y. d.0 ++ y) d.4 ∙ append-nil d.0 ∙ s.3)
      ∙ ap (λ y. codes "$=" ∷ y) (append_assoc s.0 (codes "$." ∷ []) ws))
      (λ u e. within cs (at_proof label made) (inside (in_proof label made [])) u
      (ap (proof_start label made) (ap mark_of e ∙ proof_mark)))
      (λ rest o. steps_lead cs label made [] s.0 steps rest ws final (subst (λ x. OtherSteps t x [] s.0 steps) m.0 s.2) (inr s.1) o
      (λ last i. ap (λ y. walk l (and_one a cs y) last) m.1 ∙ next last i))
  parts_lead cs p ps c us ws ts final m d h next = absurd m

  -- the words of a command lead behind it
  command_leads : (cs : List Command) (c : Command) (us ws : List Word) (ts : List Token) (final : Result P TextFault)
      → SpellsCommand t c us → words_of ts ≡ us ++ ws → Goes cs c ws final → walk l (a.between cs) ts ≡ final
  command_leads cs c us ws ts final d h next =
      let b = begins t c in
      let w = b.0 in
      let p = behind_verb t b.2 in
      let s = subst (λ ps. SpellsEach (SpellsPart t) ps us) b.3 d in
      takes l (a.between cs) (stands a cs p) w (s.1 ++ ws) ts final (h ∙ ap (λ y. y ++ ws) s.2 ∙ ap (λ y. (y ++ s.1) ++ ws) s.3.1)
      (λ u e.
      asks.words cs u ∙ ap (word_row t a cs u) e
      ∙ cond-false (bytes_eq w (codes "commit")) (Ok (a.committed cs)) (next_of (a.inner cs) (and_one a cs) u (command_word t w)) b.5
      ∙ ap (λ v. next_of (a.inner cs) (and_one a cs) u (verb_row t v)) b.4 ∙ stands_is a cs u p)
      (λ rest o. parts_lead cs p b.1 c s.1 ws rest final b.6 s.4 o next)

  commands_lead : (cs commands : List Command) (us ws : List Word) (ts : List Token) (final : Result P TextFault)
      → SpellsEach (SpellsCommand t) commands us → words_of ts ≡ us ++ ws
      → ((rest : List Token) → words_of rest ≡ ws → walk l (a.between (cs ++ commands)) rest ≡ final) → walk l (a.between cs) ts ≡ final
  commands_lead cs [] us ws ts final d h next =
      ap (λ x. walk l (a.between x) ts) (sym (append-nil cs)) ∙ next ts (h ∙ ap (λ x. x ++ ws) d)
  commands_lead cs (c ∷ commands) us ws ts final d h next =
      command_leads cs c d.0 (d.1 ++ ws) ts final d.3 (h ∙ ap (λ x. x ++ ws) d.2 ∙ append_assoc d.0 d.1 ws) (λ rest o.
      commands_lead (cs ++ c ∷ []) commands d.1 ws rest final d.4 o (λ last e.
      ap (λ x. walk l (a.between x) last) (append_assoc cs (c ∷ []) commands) ∙ next last e))

  commits : (cs : List Command) (u : Token) → u.text ≡ codes "commit" → l.row (a.between cs) u ≡ Ok (a.committed cs)
  commits cs u e = asks.words cs u ∙ ap (word_row t a cs u) e

  -- the words of a transaction behind its begin lead behind its commit
  pub asked_words_lead : (commands : List Command) (inner ws : List Word) (ts : List Token) (final : Result P TextFault)
      → SpellsEach (SpellsCommand t) commands inner → words_of ts ≡ inner ++ codes "commit" ∷ ws
      → ((rest : List Token) → words_of rest ≡ ws → walk l (a.committed commands) rest ≡ final) → walk l (a.between []) ts ≡ final
  asked_words_lead commands inner ws ts final d h next =
      commands_lead [] commands inner (codes "commit" ∷ ws) ts final d h (λ rest o.
      takes l (a.between commands) (a.committed commands) (codes "commit") ws rest final o (commits commands) next)
