-- What the code finds is barred, and what is barred the code finds.
use Rattle.std.proofs.Common.{◌≡◌, ◌∙◌, ◌⊎◌, ◌<◌, inl, inr, ℕ, Bool, true, false, cond, List, [], ◌∷◌, map, length, Option, Some, None}
use Rattle.std.proofs.Common.{refl, sym, ap, subst, arith, suc, zero}
use Rattle.std.specs.Prelude.{◌&&◌, ◌||◌, nat_lt, nat_le, not, filter_map, slice_get, Contains}
use Rattle.std.specs.List.{cons_option}
use Rattle.std.specs.Option.{option_map, option_and_then, is_some, is_none}
use Rattle.std.specs.Str.{bytes_eq}
use Rattle.std.proofs.lemmas.Bool.{ltb-true, lt-ltb, leb-true, le-leb, eqb-true, eq-eqb, or_right, and_parts}
use Rattle.std.proofs.lemmas.Option.{slice_get_within}
use Rattle.mmtext.specs.Text.{Token}
use Rattle.mmtext.specs.Words.{Word}
use Rattle.mmsyntax.proofs.Names.{bytes_eq-same}
use Rattle.source.specs.Scopes.{Assertion, Scope, is_in}
use Rattle.source.proofs.Passing.{three_parts, three_from}
use Rattle.spreading.specs.Forms.{Part}
use Rattle.spreading.specs.Spreading.{assertion_at, cites}
use Rattle.expanding.specs.Asking.{asked}
use Rattle.expanding.specs.Commands.{Command, command_of, AreCommands}
use Rattle.expanding.specs.Barred.{delete_of, move_of, is_renamed, IsDeletion, IsMoveBehind, IsBarred, Barred, barred_by, AreAllBarred}
use Rattle.expanding.specs.Bars.{Bar, bar_of, bar_of_labels, bars_of, is_lost, reach_between, reaches, is_moved_once}
use Rattle.expanding.specs.Bars.{bars_there, proof_at, names_any}
use Rattle.expanding.specs.Watches.{label_of, stays, is_watched, AreWatched, unless_asked, barred_there, or_barred, first_barred, all_barred}
use Rattle.expanding.specs.Watches.{AreBarred}
use Rattle.expanding.proofs.Commanding.{commands_same}
use Rattle.expanding.proofs.Looking.{uncited}

-- ---- truth

three_false : (a b c : Bool) → (a || b || c) ≡ false → (a ≡ false) × (b ≡ false) × (c ≡ false)
three_false false false false h = (refl, refl, refl)
three_false false false true h = absurd cc
three_false false true c h = absurd cc
three_false true b c h = absurd cc

all_false : (a b c : Bool) → a ≡ false → b ≡ false → c ≡ false → (a || b || c) ≡ false
all_false a b c h k l = rw (h, k, l) refl

-- ---- lists

module _ {A B : Type 0} (f : A → Option B) where
  -- what is gathered comes of one of them
  pub record Gathered (xs : List A) (b : B) : Type 0 where
    pub from : A
    pub among : Contains xs from
    pub is : f from ≡ Some b

  further : (x : A) (xs : List A) (b : B) → Gathered xs b → Gathered (x ∷ xs) b
  further x xs b h = record { from = h.from; among = (suc h.among.0, omega (arith, h.among.1), h.among.2); is = h.is }

  of_first : (x : A) (xs : List A) (b : B) (o : Option B) → f x ≡ o → (Contains (filter_map f xs) b → Gathered xs b)
      → Contains (cons_option o (filter_map f xs)) b → Gathered (x ∷ xs) b
  of_first x xs b None is rest h = further x xs b (rest h)
  of_first x xs b (Some c) is rest (zero, lt, at) = record { from = x; among = (0, omega arith, refl); is = is ∙ ap (λ y. Some y) at }
  of_first x xs b (Some c) is rest (suc k, lt, at) = further x xs b (rest (k, omega (arith, lt), at))

  pub comes_of : (xs : List A) (b : B) → Contains (filter_map f xs) b → Gathered xs b
  comes_of [] b h = absurd (omega (arith, h.1))
  comes_of (x ∷ xs) b h = of_first x xs b (f x) refl (comes_of xs b) h

  behind_one : (o : Option B) (bs : List B) (b : B) → Contains bs b → Contains (cons_option o bs) b
  behind_one None bs b h = h
  behind_one (Some c) bs b h = (suc h.0, omega (arith, h.1), h.2)

  first_one : (o : Option B) (bs : List B) (b : B) → o ≡ Some b → Contains (cons_option o bs) b
  first_one None bs b is = absurd cc
  first_one (Some c) bs b is = let same : c ≡ b = cc in (0, omega arith, same)

  -- and each of them is gathered
  pub comes : (xs : List A) (x : A) (b : B) → Contains xs x → f x ≡ Some b → Contains (filter_map f xs) b
  comes [] x b among is = absurd (omega (arith, among.1))
  comes (y ∷ ys) x b (zero, lt, at) is = first_one (f y) (filter_map f ys) b (ap f at ∙ is)
  comes (y ∷ ys) x b (suc k, lt, at) is = behind_one (f y) (filter_map f ys) b (comes ys x b (k, omega (arith, lt), at) is)

-- ---- bars

module _ (s : Scope) (scripts : List (List Token)) (cs : List Command) where
  -- what a bar forbids
  pub record Meant (c : Command) (b : Bar) : Type 0 where
    pub script_is : b.script ≡ c.script
    pub forbids : (place : ℕ) → reaches b.reach place ≡ true → (is_none b.reach || is_moved_once cs b.label.text) ≡ true
        → IsDeletion s cs c.words b.label ⊎ IsMoveBehind s scripts cs c.words b.label place

  deletion : (c : Command) (b : Bar) (label : Token) (r : Bool) (o : Option ℕ) → delete_of c.words ≡ Some label
      → is_renamed cs label.text ≡ r → assertion_at s label.text ≡ o
      → cond r None (option_map (λ _. record { script = c.script; label = label; reach = None }) o) ≡ Some b → Meant c b
  deletion c b label true o is renamed there h = absurd cc
  deletion c b label false None is renamed there h = absurd cc
  deletion c b label false (Some n) is renamed there h =
      let made : Bar = record { script = c.script; label = label; reach = None } in
      let same : made ≡ b = cc in
      subst (Meant c) same record {
        script_is = refl;
        forbids = λ place reached sure. inl record { deletes = is; declared = ap is_some there; keeps_label = renamed };
      }

  abbrev kept : Token → Token → Bool
  kept label mark = is_lost cs label.text || is_lost cs mark.text || is_in (asked scripts) mark.text

  move : (c : Command) (b : Bar) (label mark : Token) (r : Bool) (o p : Option ℕ) → move_of c.words ≡ Some (label, mark)
      → kept label mark ≡ r → assertion_at s label.text ≡ o → assertion_at s mark.text ≡ p
      → cond r None (option_map (λ r. record { script = c.script; label = label; reach = Some r }) (reach_between o p)) ≡ Some b
      → Meant c b
  move c b label mark true o p is lost from to h = absurd cc
  move c b label mark false None p is lost from to h = absurd cc
  move c b label mark false (Some m) None is lost from to h = absurd cc
  move c b label mark false (Some m) (Some n) is lost from to h =
      let made : Bar = record { script = c.script; label = label; reach = Some (m, n) } in
      let same : made ≡ b = cc in
      let keep = three_false (is_lost cs label.text) (is_lost cs mark.text) (is_in (asked scripts) mark.text) lost in
      subst (Meant c) same record {
        script_is = refl;
        forbids =
            λ place reached sure.
            let in_reach = and_parts (nat_lt m place) (nat_le place n) reached in inr record {
              mark = mark;
              puts = is;
              from = m;
              stood = from;
              to = n;
              put_behind = to;
              above = ltb-true m place in_reach.0;
              below = leb-true place n in_reach.1;
              once = eqb-true _ 1 sure;
              keeps_label = keep.0;
              mark_keeps_label = keep.1;
              mark_stays = keep.2;
            };
      }

  labels : (c : Command) (b : Bar) (o : Option Token) (m : Option (Token × Token)) → delete_of c.words ≡ o → move_of c.words ≡ m
      → bar_of_labels s (asked scripts) cs c.script o m ≡ Some b → Meant c b
  labels c b (Some label) m is other h =
      deletion c b label (is_renamed cs label.text) (assertion_at s label.text) is refl refl h
  labels c b None (Some m) is other h =
      move c b m.0 m.1 (kept m.0 m.1) (assertion_at s m.0.text) (assertion_at s m.1.text) other refl refl refl h
  labels c b None None is other h = absurd cc

  pub meant : (c : Command) (b : Bar) → bar_of s (asked scripts) cs c ≡ Some b → Meant c b
  meant c b h = labels c b (delete_of c.words) (move_of c.words) refl refl h

  -- ---- and each is one

  there_is : {B : Type 0} (b : B) (o : Option ℕ) → is_some o ≡ true → option_map (λ _. b) o ≡ Some b
  there_is b None h = absurd cc
  there_is b (Some n) h = refl

  deletion_bars : (c : Command) (label : Token) → IsDeletion s cs c.words label
      → bar_of s (asked scripts) cs c ≡ Some (record { script = c.script; label = label; reach = None })
  deletion_bars c label h =
      let b : Bar = record { script = c.script; label = label; reach = None } in
      rw (h.deletes, h.keeps_label) (there_is b (assertion_at s label.text) h.declared)

  no_deletion : (p : Part) (m : Token × Token) → move_of p ≡ Some m → delete_of p ≡ None
  no_deletion [] m h = refl
  no_deletion (a ∷ []) m h = refl
  no_deletion (a ∷ b ∷ []) m h = absurd cc
  no_deletion (a ∷ b ∷ c ∷ rest) m h = refl

  move_bars : (c : Command) (label : Token) (place : ℕ) → (h : IsMoveBehind s scripts cs c.words label place)
      → bar_of s (asked scripts) cs c ≡ Some (record { script = c.script; label = label; reach = Some (h.from, h.to) })
  move_bars c label place h =
      let kept_both : kept label h.mark ≡ false =
      all_false (is_lost cs label.text) (is_lost cs h.mark.text) (is_in (asked scripts) h.mark.text) h.keeps_label h.mark_keeps_label
      h.mark_stays in
      rw (no_deletion c.words (label, h.mark) h.puts, h.puts, kept_both, h.stood, h.put_behind) refl

  -- ---- what is found

  module _ (are : AreCommands 0 scripts cs) where
    abbrev bars : List Bar
    bars = bars_of s (asked scripts) cs cs

    barred_at : (place : ℕ) (a : Assertion) (b : Bar) → slice_get s.assertions place ≡ Some a → Contains bars b
        → bars_there s cs place b ≡ true → is_in (asked scripts) a.label ≡ false → IsBarred s scripts b.script b.label a.label
    barred_at place a b there among bar asks =
        let f = comes_of (bar_of s (asked scripts) cs) cs b among in
        let m = meant f.from b f.is in
        let cited_there = cites b.label.text (proof_at s place) in
        let passes = three_parts (reaches b.reach place) cited_there (is_none b.reach || is_moved_once cs b.label.text) bar in
        record {
          commands = cs;
          are_commands = are;
          part = f.from.words;
          ordered = subst (λ n. Contains cs (command_of n f.from.words)) (sym m.script_is) f.among;
          place = place;
          held = record {
            theorem = a;
            there = there;
            named = refl;
            cited = ap (λ o. cites b.label.text (option_and_then (λ (y : Assertion). y.proof) o)) (sym there) ∙ passes.1;
            stays = asks;
          };
          forbidden = m.forbids place passes.0 passes.2;
        }

    barred_then : (place : ℕ) (b : Bar) (x : Barred) (a : Assertion) (r : Bool) → slice_get s.assertions place ≡ Some a → Contains bars b
        → bars_there s cs place b ≡ true → is_in (asked scripts) a.label ≡ r
        → cond r None (Some (barred_by b.script b.label a.label)) ≡ Some x → IsBarred s scripts x.script x.label x.by
    barred_then place b x a true there among bar asks h = absurd cc
    barred_then place b x a false there among bar asks h =
        let made : Barred = barred_by b.script b.label a.label in
        let same : made ≡ x = cc in
        subst (λ (y : Barred). IsBarred s scripts y.script y.label y.by) same (barred_at place a b there among bar asks)

    barred_of_option : (place : ℕ) (b : Bar) (x : Barred) (t : Bool) (o : Option Assertion) → Contains bars b → bars_there s cs place b ≡ t
        → slice_get s.assertions place ≡ o → cond t (option_and_then (unless_asked (asked scripts) b) o) None ≡ Some x
        → IsBarred s scripts x.script x.label x.by
    barred_of_option place b x false o among bar there h = absurd cc
    barred_of_option place b x true None among bar there h = absurd cc
    barred_of_option place b x true (Some a) among bar there h =
        barred_then place b x a (is_in (asked scripts) a.label) there among bar refl h

    is_barred : (b : Bar) (place : ℕ) (x : Barred) → Contains bars b → barred_there s (asked scripts) cs b place ≡ Some x
        → IsBarred s scripts x.script x.label x.by
    is_barred b place x among h =
        barred_of_option place b x (bars_there s cs place b) (slice_get s.assertions place) among refl refl h

    -- ---- what isn't missed

    record BarThere (place : ℕ) (c : Command) (label : Token) : Type 0 where
      bar : Bar
      is : bar_of s (asked scripts) cs c ≡ Some bar
      bars_it : bars_there s cs place bar ≡ true
      script_is : bar.script ≡ c.script
      label_is : bar.label ≡ label

    forbidden_bar : (c : Command) (label : Token) (place : ℕ) → cites label.text (proof_at s place) ≡ true
        → IsDeletion s cs c.words label ⊎ IsMoveBehind s scripts cs c.words label place → BarThere place c label
    forbidden_bar c label place cited (inl h) = record {
      bar = record { script = c.script; label = label; reach = None };
      is = deletion_bars c label h;
      bars_it = three_from true (cites label.text (proof_at s place)) true refl cited refl;
      script_is = refl;
      label_is = refl;
    }
    forbidden_bar c label place cited (inr h) =
        let reached : (nat_lt h.from place && nat_le place h.to) ≡ true =
        rw (lt-ltb h.from place h.above, le-leb place h.to h.below) refl in
        let once = eq-eqb _ 1 h.once in
        record {
          bar = record { script = c.script; label = label; reach = Some (h.from, h.to) };
          is = move_bars c label place h;
          bars_it =
              three_from (nat_lt h.from place && nat_le place h.to) (cites label.text (proof_at s place)) (is_moved_once cs label.text)
              reached
              cited once;
          script_is = refl;
          label_is = refl;
        }

    some_there : (b : Bar) (place : ℕ) (a : Assertion) (t r : Bool) (o : Option Assertion) → t ≡ true → o ≡ Some a
        → is_in (asked scripts) a.label ≡ r → r ≡ false → is_some (cond t (option_and_then (unless_asked (asked scripts) b) o) None) ≡ true
    some_there b place a t r o bar there asks stays =
        rw (bar, there, asks, stays) refl

    not_missed : (script : ℕ) (label : Token) (by : Word) (found : List Barred) → AreBarred s (asked scripts) cs found
        → IsBarred s scripts script label by → (other : Word) × Contains found (barred_by script label other)
    not_missed script label by found all h =
        let same : h.commands ≡ cs = commands_same scripts 0 h.commands cs h.are_commands are in
        let c = command_of script h.part in
        let a = h.held.theorem in
        let cited : cites label.text (proof_at s h.place) ≡ true =
        ap (λ o. cites label.text (option_and_then (λ (y : Assertion). y.proof) o)) h.held.there ∙ h.held.cited in
        let among : Contains cs c = subst (λ ds. Contains ds c) same h.ordered in
        let forbidden : IsDeletion s cs c.words label ⊎ IsMoveBehind s scripts cs c.words label h.place =
        subst (λ ds. IsDeletion s ds h.part label ⊎ IsMoveBehind s scripts ds h.part label h.place) same h.forbidden in
        let b = forbidden_bar c label h.place cited forbidden in
        let stays : is_in (asked scripts) a.label ≡ false = ap (is_in (asked scripts)) h.held.named ∙ h.held.stays in
        let some = some_there b.bar h.place a (bars_there s cs h.place b.bar) (is_in (asked scripts) a.label)
        (slice_get s.assertions h.place) b.bars_it h.held.there refl stays in
        let w = all.complete b.bar h.place (comes (bar_of s (asked scripts) cs) cs c b.bar among b.is)
        (slice_get_within s.assertions h.place a h.held.there) some in (
          w.0,
          subst (λ n. Contains found (barred_by n label w.0)) b.script_is
              (subst (λ l. Contains found (barred_by b.bar.script l w.0)) b.label_is w.1),
        )

    pub all_found : (found : List Barred) → AreBarred s (asked scripts) cs found → AreAllBarred s scripts found
    all_found found all = record {
      sound = λ x among. let w = all.sound x among in is_barred w.0 w.1 x w.2 w.3;
      complete = λ script label by h. not_missed script label by found all h;
    }

-- ---- the first of some theorems that forbids a command

module _ (s : Scope) (asks : List Word) (cs : List Command) where
  of_later : (b : Bar) (x : Barred) (place : ℕ) (rest : Option Barred) (o : Option Barred) → barred_there s asks cs b place ≡ o
      → (rest ≡ Some x → (other : ℕ) × (barred_there s asks cs b other ≡ Some x)) → or_barred o rest ≡ Some x
      → (other : ℕ) × (barred_there s asks cs b other ≡ Some x)
  of_later b x place rest None is later h = later h
  of_later b x place rest (Some y) is later h = (place, is ∙ h)

  first_found : (b : Bar) (x : Barred) (places : List ℕ) → first_barred s asks cs places b ≡ Some x
      → (place : ℕ) × (barred_there s asks cs b place ≡ Some x)
  first_found b x [] h = absurd cc
  first_found b x (place ∷ places) h =
      of_later b x place (first_barred s asks cs places b) (barred_there s asks cs b place) refl (first_found b x places) h

  some_later : (o rest : Option Barred) → is_some rest ≡ true → is_some (or_barred o rest) ≡ true
  some_later None rest h = h
  some_later (Some y) rest h = refl

  some_first : (o rest : Option Barred) → is_some o ≡ true → is_some (or_barred o rest) ≡ true
  some_first None rest h = absurd cc
  some_first (Some y) rest h = refl

  finds_first : (b : Bar) (place : ℕ) (places : List ℕ) → Contains places place → is_some (barred_there s asks cs b place) ≡ true
      → is_some (first_barred s asks cs places b) ≡ true
  finds_first b place [] among some = absurd (omega (arith, among.1))
  finds_first b place (p ∷ ps) (zero, lt, at) some =
      some_first (barred_there s asks cs b p) (first_barred s asks cs ps b) (ap (λ n. is_some (barred_there s asks cs b n)) at ∙ some)
  finds_first b place (p ∷ ps) (suc k, lt, at) some =
      some_later (barred_there s asks cs b p) (first_barred s asks cs ps b) (finds_first b place ps (k, omega (arith, lt), at) some)

  pub barred_nowhere : (b : Bar) (place : ℕ) → bars_there s cs place b ≡ false → None ≡ barred_there s asks cs b place
  barred_nowhere b place isnt =
      sym (ap (λ t. cond t (option_and_then (unless_asked asks b) (slice_get s.assertions place)) None) isnt)

  barred_of : (b : Bar) (w : Word) (o : Option Assertion) → Some w ≡ option_map (λ a. a.label) o → is_in asks w ≡ false
      → Some (barred_by b.script b.label w) ≡ option_and_then (unless_asked asks b) o
  barred_of b w None is stays = absurd cc
  barred_of b w (Some a) is stays =
      let same : w ≡ a.label = cc in
      ap (λ v. Some (barred_by b.script b.label v)) same
      ∙ sym (ap (λ t. cond t None (Some (barred_by b.script b.label a.label))) (ap (is_in asks) (sym same) ∙ stays))

  pub barred_here : (b : Bar) (place : ℕ) (w : Word) → bars_there s cs place b ≡ true
      → Some w ≡ option_map (λ a. a.label) (slice_get s.assertions place) → is_in asks w ≡ false
      → Some (barred_by b.script b.label w) ≡ barred_there s asks cs b place
  barred_here b place w bar is stays =
      barred_of b w (slice_get s.assertions place) is stays
      ∙ sym (ap (λ t. cond t (option_and_then (unless_asked asks b) (slice_get s.assertions place)) None) bar)

  -- it has the script and the label of the command
  names_then : (b : Bar) (x : Barred) (a : Assertion) (r : Bool) → cond r None (Some (barred_by b.script b.label a.label)) ≡ Some x
      → x ≡ barred_by b.script b.label x.by
  names_then b x a true h = absurd cc
  names_then b x a false h =
      let made : Barred = barred_by b.script b.label a.label in
      let same : made ≡ x = cc in
      sym same ∙ ap (λ (y : Barred). barred_by b.script b.label y.by) same

  names_option : (b : Bar) (x : Barred) (t : Bool) (o : Option Assertion)
      → cond t (option_and_then (unless_asked asks b) o) None ≡ Some x → x ≡ barred_by b.script b.label x.by
  names_option b x false o h = absurd cc
  names_option b x true None h = absurd cc
  names_option b x true (Some a) h = names_then b x a (is_in asks a.label) h

  names_bar : (b : Bar) (x : Barred) (place : ℕ) → barred_there s asks cs b place ≡ Some x → x ≡ barred_by b.script b.label x.by
  names_bar b x place h = names_option b x (bars_there s cs place b) (slice_get s.assertions place) h

  -- ---- all that forbid something are watched

  module _ (test : Word → Bool) (b : Bar) (place : ℕ) (passes : test b.label.text ≡ true) where
    uncited_there : (a d : Bool) → (a && false && d) ≡ false
    uncited_there true d = refl
    uncited_there false d = refl

    not_there : names_any test (proof_at s place) ≡ false → bars_there s cs place b ≡ false
    not_there none =
        rw (uncited test b.label.text (proof_at s place) passes none)
        (uncited_there (reaches b.reach place) (is_none b.reach || is_moved_once cs b.label.text))

    names_it : (n : Bool) → names_any test (proof_at s place) ≡ n → is_some (barred_there s asks cs b place) ≡ true → n ≡ true
    names_it true is some = refl
    names_it false is some =
        let none = ap (λ t. is_some (cond t (option_and_then (unless_asked asks b) (slice_get s.assertions place)) None)) (not_there is) in
        absurd (let never : false ≡ true = sym none ∙ some in cc)

    unasked : (a : Assertion) (r : Bool) → is_some (cond r None (Some (barred_by b.script b.label a.label))) ≡ true → not r ≡ true
    unasked a true h = absurd cc
    unasked a false h = refl

    stays_there : (t : Bool) (o : Option Assertion) → is_some (cond t (option_and_then (unless_asked asks b) o) None) ≡ true
        → stays asks o ≡ true
    stays_there false o h = absurd cc
    stays_there true None h = absurd cc
    stays_there true (Some a) h = unasked a (is_in asks a.label) h

    both : (x y : Bool) → x ≡ true → y ≡ true → (x && y) ≡ true
    both true true h k = refl
    both true false h k = absurd cc
    both false y h k = absurd cc

    watched_there : is_some (barred_there s asks cs b place) ≡ true → is_watched s asks test place ≡ true
    watched_there some =
        both (names_any test (proof_at s place)) (stays asks (slice_get s.assertions place))
        (names_it (names_any test (proof_at s place)) refl some)
        (stays_there (bars_there s cs place b) (slice_get s.assertions place) some)

  value_of : (o : Option Barred) → is_some o ≡ true → (x : Barred) × (o ≡ Some x)
  value_of None h = absurd cc
  value_of (Some x) h = (x, refl)

  here : (b : Bar) (bs : List Bar) → Contains bs b → is_in (map label_of bs) (label_of b) ≡ true
  here b [] among = absurd (omega (arith, among.1))
  here b (d ∷ bs) (zero, lt, at) =
      let same : bytes_eq (label_of b) (label_of d) ≡ true =
      ap (λ (e : Bar). bytes_eq (label_of b) (label_of e)) at ∙ bytes_eq-same (label_of b) in
      ap (λ t. t || is_in (map label_of bs) (label_of b)) same
  here b (d ∷ bs) (suc k, lt, at) =
      or_right (bytes_eq (label_of b) (label_of d)) (is_in (map label_of bs) (label_of b)) (here b bs (k, omega (arith, lt), at))

  -- what some theorems forbid is all, where all that may forbid something are among them
  pub all_there : (test : Word → Bool) (places : List ℕ)
      → ((x : Word) → test x ≡ is_in (map label_of (bars_of s asks cs cs)) x) → AreWatched s asks test places
      → AreBarred s asks cs (all_barred s asks cs places (bars_of s asks cs cs))
  all_there test places by_label watched = record {
    sound = λ x among.
        let f = comes_of (first_barred s asks cs places) (bars_of s asks cs cs) x among in
        let w = first_found f.from x places f.is in (f.from, w.0, f.among, w.1);
    complete = λ b place among lt some.
        let passes = by_label (label_of b) ∙ here b (bars_of s asks cs cs) among in
        let there = watched place lt (watched_there test b place passes some) in
        let v = value_of (first_barred s asks cs places b) (finds_first b place places there some) in
        let w = first_found b v.0 places v.1 in
        let x = names_bar b v.0 w.0 w.1 in (
          v.0.by,
          subst (Contains (all_barred s asks cs places (bars_of s asks cs cs))) x
              (comes (first_barred s asks cs places) (bars_of s asks cs cs) b v.0 among v.1),
        );
  }

  -- where no command may be forbidden none is
  pub none_there : bars_of s asks cs cs ≡ [] → AreBarred s asks cs []
  none_there none = record {
    sound = λ x among. absurd (omega (arith, among.1));
    complete = λ b place among lt some.
        absurd (let never : Contains [] b = subst (λ bs. Contains bs b) none among in omega (arith, never.1));
  }
