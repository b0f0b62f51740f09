-- Scripts that are spelled one after another, and the first that has a fault.
use Rattle.std.proofs.Common.{◌≡◌, ◌≢◌, ◌∙◌, ◌+◌, ◌<◌, ◌≤◌, ◌⊎◌, inl, inr, Result, Err, ℕ, zero, suc, List, [], ◌∷◌, ◌++◌, length, get_or, map, take, drop, Vec, subst, sym, ap, refl, arith}
use Rattle.std.specs.declared.alloc.Global.{Global}
use Rattle.std.proofs.lemmas.List.{take_more, take_all, take-append-drop, length-take-le, map-append}
use Rattle.std.proofs.Math.Seq.{drop-cons}
use Rattle.mmtext.specs.declared.fault.TextFault.{TextFault}
use Rattle.mmtext.specs.declared.fault.FaultKind.TheVariants.{NoMemory as OutOfMemory}
use Rattle.scripts.specs.Scripts.{SpellsScript}
use Rattle.scripts.specs.ScriptFaults.{FaultyScript}
use Rattle.checking.specs.declared.fault.Fault.{Fault}
use Rattle.checking.specs.declared.fault.Fault.TheVariants.{Text, NoMemory}
use Rattle.checking.specs.Checks.{Bytes, Orders, IsScript, AreScripts, IsFirstFaultyScript}
use Rattle.checking.specs.Parts.{IsScriptFault, IsTextFaultOf, IsRefusedBy, IsRefusedWith}
use Rattle.mmsyntax.specs.Tables.{Tables}

module _ (p : Tables) where
  -- ---- lists of texts

  -- one more text, with its script
  spelled_more : (ts : List Bytes) (xs : List Orders) (t : Bytes) (x : Orders) → AreScripts p ts xs → IsScript p t x
      → AreScripts p (ts ++ t ∷ []) (xs ++ x ∷ [])
  spelled_more [] [] t x h spelled = (spelled, tt)
  spelled_more [] (y ∷ ys) t x h spelled = absurd h
  spelled_more (s ∷ ss) [] t x h spelled = absurd h
  spelled_more (s ∷ ss) (y ∷ ys) t x h spelled = (h.0, spelled_more ss ys t x h.1 spelled)

  -- behind texts that are spelled a fault is the first
  first_behind : (ts : List Bytes) (xs : List Orders) (t : Bytes) (rest : List Bytes) (f : TextFault) → AreScripts p ts xs
      → FaultyScript p t f → IsFirstFaultyScript p (ts ++ t ∷ rest) (length ts) f
  first_behind [] xs t rest f h faulty = faulty
  first_behind (s ∷ ss) [] t rest f h faulty = absurd h
  first_behind (s ∷ ss) (y ∷ ys) t rest f h faulty = ((y, h.0), first_behind ss ys t rest f h.1 faulty)

  -- ---- vectors of texts, read up to a place

  abbrev Texts : Type 0
  Texts = List (Vec ℕ Global)

  abbrev bytes : Texts → List Bytes
  bytes ts = map (λ t. t.items) ts

  pub spelled_begins : (ts : Texts) (xs : List Orders) → xs ≡ [] → AreScripts p (bytes (take 0 ts)) xs
  spelled_begins ts xs e = subst (λ (ys : List Orders). AreScripts p [] ys) (sym e) tt

  pub spelled_next : (ts : Texts) (xs : List Orders) (t : Vec ℕ Global) (x : Orders) (i : ℕ) → i < length ts → t ≡ get_or ts i t
      → AreScripts p (bytes (take i ts)) xs → IsScript p t.items x → AreScripts p (bytes (take (i + 1) ts)) (xs ++ x ∷ [])
  spelled_next ts xs t x i within is_t h spelled =
      let here : take (i + 1) ts ≡ take i ts ++ t ∷ [] = take_more ts i t within ∙ ap (λ u. take i ts ++ u ∷ []) (sym is_t) in
      subst (λ (us : List Bytes). AreScripts p us (xs ++ x ∷ [])) (sym (ap bytes here ∙ map-append (λ u. u.items) (take i ts) (t ∷ [])))
      (spelled_more (bytes (take i ts)) xs t.items x h spelled)

  pub spelled_all : (ts : Texts) (xs : List Orders) (i : ℕ) → length ts ≤ i → AreScripts p (bytes (take i ts)) xs
      → AreScripts p (bytes ts) xs
  spelled_all ts xs i all h = subst (λ (us : Texts). AreScripts p (bytes us) xs) (take_all i ts all) h

  length_bytes : (ts : Texts) → length (bytes ts) ≡ length ts
  length_bytes [] = refl
  length_bytes (t ∷ ts) = ap (λ n. suc n) (length_bytes ts)

  -- the bytes of texts, cut at a place
  cut_at : (ts : Texts) (t : Vec ℕ Global) (i : ℕ) → i < length ts → t ≡ get_or ts i t
      → bytes ts ≡ bytes (take i ts) ++ t.items ∷ bytes (drop (suc i) ts)
  cut_at ts t i within is_t =
      sym (ap bytes (take-append-drop i ts)) ∙ map-append (λ u. u.items) (take i ts) (drop i ts)
      ∙ ap (λ us. bytes (take i ts) ++ bytes us) (drop-cons ts i t within ∙ ap (λ u. u ∷ drop (suc i) ts) (sym is_t))

  length-front : (ts : Texts) (i : ℕ) → i < length ts → length (bytes (take i ts)) ≡ i
  length-front ts i within = length_bytes (take i ts) ∙ length-take-le i ts (omega arith)

  first_at : (ts : Texts) (xs : List Orders) (t : Vec ℕ Global) (i : ℕ) (f : TextFault) → i < length ts → t ≡ get_or ts i t
      → AreScripts p (bytes (take i ts)) xs → FaultyScript p t.items f → IsFirstFaultyScript p (bytes ts) i f
  first_at ts xs t i f within is_t h faulty =
      let front = bytes (take i ts) in
      let rest = bytes (drop (suc i) ts) in
      subst (λ (us : List Bytes). IsFirstFaultyScript p us i f) (sym (cut_at ts t i within is_t))
      (subst (λ (n : ℕ). IsFirstFaultyScript p (front ++ t.items ∷ rest) n f) (length-front ts i within)
      (first_behind front xs t.items rest f h faulty))

  -- the fault of the text at a place is the scripts' fault, at the place counted from 1
  pub script_fault : (ts : Texts) (xs : List Orders) (t : Vec ℕ Global) (i : ℕ) (f : TextFault) (fault : Fault) → i < length ts
      → t ≡ get_or ts i t → AreScripts p (bytes (take i ts)) xs
      → (f.kind ≢ OutOfMemory → FaultyScript p t.items f) → IsTextFaultOf (i + 1) f fault → IsScriptFault p (bytes ts) fault
  script_fault ts xs t i f NoMemory within is_t h faulty is = tt
  script_fault ts xs t i f (Text zero g) within is_t h faulty is = absurd (let z : 0 ≡ i + 1 = is.0 in omega arith)
  script_fault ts xs t i f (Text (suc k) g) within is_t h faulty is =
      let at : k ≡ i = (let e : suc k ≡ i + 1 = is.0 in omega arith) in
      let same : g ≡ f = is.1 in
      subst (λ (n : ℕ). IsScriptFault p (bytes ts) (Text (suc n) g)) (sym at)
      (subst (λ (q : TextFault). IsScriptFault p (bytes ts) (Text (suc i) q)) (sym same) (
        first_at ts xs t i f within is_t h (faulty is.2),
        is.2,
      ))
  script_fault ts xs t i f _ within is_t h faulty is = absurd is

  -- ---- refusals

  -- the reader of a text answers each fault of it, unless memory ran out
  abbrev Answers : (TextFault → Type 0) → TextFault → Type 0
  Answers F g = (h : TextFault) → F h → (g ≡ h) ⊎ (g.kind ≡ OutOfMemory)

  pub refused_with : (n : ℕ) (g f : TextFault) (fault : Fault) → IsTextFaultOf n g fault → (g ≡ f) ⊎ (g.kind ≡ OutOfMemory)
      → IsRefusedBy n f fault
  refused_with n g f NoMemory is h = tt
  refused_with n g f (Text m q) is (inl same) = (is.0, is.1 ∙ same)
  refused_with n g f (Text m q) is (inr out) = absurd (is.2 out)
  refused_with n g f _ is h = absurd is

  -- where the text has no fault, memory ran out
  out_of_memory : (n k : ℕ) (g f : TextFault) (fault : Fault) → IsTextFaultOf n g fault → (g.kind ≢ OutOfMemory → ⊥) → IsRefusedBy k f fault
  out_of_memory n k g f NoMemory is h = tt
  out_of_memory n k g f (Text m q) is h = absurd (h is.2)
  out_of_memory n k g f _ is h = absurd is

  -- behind texts that are read the first fault is that of the next text, or it has none
  first_or_none : (ts : List Bytes) (xs : List Orders) (t : Bytes) (rest : List Bytes) (k : ℕ) (f : TextFault) → AreScripts p ts xs
      → IsFirstFaultyScript p (ts ++ t ∷ rest) k f → ((k ≡ length ts) × FaultyScript p t f) ⊎ ((g : TextFault) → FaultyScript p t g → ⊥)
  first_or_none [] xs t rest zero f h first = inl (refl, first)
  first_or_none [] xs t rest (suc k) f h first = inr first.0.1.faultless
  first_or_none (s ∷ ss) [] t rest k f h first = absurd h
  first_or_none (s ∷ ss) (y ∷ ys) t rest zero f h first = absurd (h.0.faultless f first)
  first_or_none (s ∷ ss) (y ∷ ys) t rest (suc k) f h first =
      elim (first_or_none ss ys t rest k f h.1 first.1) [
        | inl here ↦ inl (ap (λ n. suc n) here.0, here.1)
        | inr none ↦ inr none
      ]

  -- texts that are all read have no first fault
  pub no_first : (ts : List Bytes) (xs : List Orders) (k : ℕ) (f : TextFault) → AreScripts p ts xs → IsFirstFaultyScript p ts k f → ⊥
  no_first [] xs k f h first = first
  no_first (t ∷ ts) [] k f h first = h
  no_first (t ∷ ts) (x ∷ xs) zero f h first = h.0.faultless f first
  no_first (t ∷ ts) (x ∷ xs) (suc k) f h first = no_first ts xs k f h.1 first.1

  -- a text that the reader of scripts reads
  pub read_as : (b text : Bytes) (x : Orders) → b ≡ text → SpellsScript p b x → ((f : TextFault) → FaultyScript p b f → ⊥)
      → IsScript p text x
  read_as b text x same spelled none = record {
    spelled = subst (λ (w : Bytes). SpellsScript p w x) same spelled;
    faultless = λ f faulty. none f (subst (λ (w : Bytes). FaultyScript p w f) (sym same) faulty);
  }

  -- the script at a place is refused, and those before it are read
  pub script_refused : (ts : Texts) (xs : List Orders) (t : Vec ℕ Global) (i k : ℕ) (g f : TextFault) (fault : Fault)
      → i < length ts → t ≡ get_or ts i t → AreScripts p (bytes (take i ts)) xs → Answers (FaultyScript p t.items) g
      → (g.kind ≢ OutOfMemory → FaultyScript p t.items g) → IsTextFaultOf (i + 1) g fault → IsFirstFaultyScript p (bytes ts) k f
      → IsRefusedBy (k + 1) f fault
  script_refused ts xs t i k g f fault within is_t h answers faulty is first =
      let front = bytes (take i ts) in
      let rest = bytes (drop (suc i) ts) in
      let cut = subst (λ (us : List Bytes). IsFirstFaultyScript p us k f) (cut_at ts t i within is_t) first in
      elim (first_or_none front xs t.items rest k f h cut) [
        | inl here ↦
            let same : i ≡ k = sym (here.0 ∙ length-front ts i within) in
            subst (λ (n : ℕ). IsRefusedBy (n + 1) f fault) same (refused_with (i + 1) g f fault is (answers f here.1))
        | inr none ↦ out_of_memory (i + 1) (k + 1) g f fault is (λ ne. none g (faulty ne))
      ]

  -- want of memory refuses as much as any fault
  pub refused_by_memory : {A : Type 0} (k : ℕ) (f : TextFault) (result : Result A Fault) → result ≡ Err NoMemory → IsRefusedWith k f result
  refused_by_memory k f result h = rw h tt
