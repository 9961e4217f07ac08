-- The waits between pattern and replacement: other text is passed over.
-- Assumes nothing.
use mathlib.Core.Path.{◌≡◌, refl, ◌∙◌}
use mathlib.Core.Bool.{Bool, true, false}
use mathlib.Core.List.{List, []}
use mathlib.Core.Option.{none}
use Prim.Native.Nat.{ℕ, ◌+◌, ◌≤◌}
use native.Mathlib.Omega.{arith}
use lib.Dec.{eqb}
use borrow.Author.Tests.{ne_eqb, eqb-true, eqb-false}
use Rattle.macros.specs.Refusals.FileRefusal.{incomplete}
use Rattle.macros.specs.Macro.{Piece, pick}
use Rattle.macros.specs.Read.{Part, Prior, Front, part_byte, skips, symbol_byte, quote_byte, part_byte_by}
use Rattle.macros.specs.ReadSoFar.Part.{await_symbol, await_quote, replacement}
use Rattle.macros.specs.ReadSoFar.Step.{on, stop}
use Rattle.read_scan.specs.Scan.{run, Passes}
use Rattle.read_action.specs.Action.{SymbolAt, QuoteAt, FrontAt, symbol_of}
use Rattle.read_scan.specs.declared.FileFault.TheVariants.{Incomplete}
use Rattle.std.specs.Prelude.{Ok, Err}
use Rattle.read_scan.specs.Bytes.{refused}
use Rattle.read_scan.specs.declared.ReadError.{ReadError}
use Rattle.read_scan.proofs.Laws.{here_on, here_stop, reached_behind}

-- a family of states that a wait does not leave from p to v
abbrev pub Waits : {A : Type 0} → List ℕ → ℕ → (A → Part) → ℕ → ℕ → Type 0
Waits {A} s a F p v = (x : A) (pr : Prior) → run s a pr false p (F x) ≡ run s a pr false v (F x)

-- THE SYMBOL

symbol_skips : (ps : List Piece) → skips (await_symbol ps) ≡ true
unfolding skips
symbol_skips ps = refl

symbol_equal : (ps : List Piece) (b : ℕ) → b ≡ 61 → part_byte (await_symbol ps) b ≡ on (await_quote (record { pieces = ps; symbol = symbol_of b }))
unfolding part_byte_by symbol_byte symbol_of pick
symbol_equal ps b e = rw e refl

symbol_less : (ps : List Piece) (b : ℕ) → b ≡ 60 → part_byte (await_symbol ps) b ≡ on (await_quote (record { pieces = ps; symbol = symbol_of b }))
unfolding part_byte_by symbol_byte symbol_of pick
symbol_less ps b e = rw e refl

symbol_quote : (ps : List Piece) (b : ℕ) → b ≡ 39 → part_byte (await_symbol ps) b ≡ stop incomplete
unfolding part_byte_by symbol_byte pick
symbol_quote ps b e = rw e refl

symbol_end : (ps : List Piece) (b : ℕ) → b ≡ 59 → part_byte (await_symbol ps) b ≡ stop incomplete
unfolding part_byte_by symbol_byte pick
symbol_end ps b e = rw e refl

symbol_other : (ps : List Piece) (b : ℕ) → (b ≡ 61 → ⊥) → (b ≡ 60 → ⊥) → (b ≡ 39 → ⊥) → (b ≡ 59 → ⊥) → part_byte (await_symbol ps) b ≡ on (await_symbol ps)
unfolding part_byte_by symbol_byte pick
symbol_other ps b e f g h = simp (ne_eqb _ _ e, ne_eqb _ _ f, ne_eqb _ _ g, ne_eqb _ _ h)

module _ (s : List ℕ) (a p v : ℕ) (g : Waits s a await_symbol p v) (l : p ≤ v) where
  pub symbol_none : {e : ReadError} → Passes s a v (Err e) → SymbolAt s a p (Err e)
  symbol_none y = (y.found, λ ps pr. g ps pr ∙ y.answer (await_symbol ps) pr (symbol_skips ps))

  module _ {b q : ℕ} (y : Passes s a v (Ok (b, q))) where
    there : (ps : List Piece) (pr : Prior) → run s a pr false p (await_symbol ps) ≡ run s a pr false q (await_symbol ps)
    there ps pr = g ps pr ∙ y.answer (await_symbol ps) pr (symbol_skips ps)

    got : ((ps : List Piece) → part_byte (await_symbol ps) b ≡ on (await_quote (record { pieces = ps; symbol = symbol_of b }))) → SymbolAt s a p (Ok (b, q))
    got h = (omega (arith, y.found.0), y.found.1, λ ps pr. there ps pr ∙ here_on y.found.1 pr (await_symbol ps) _ (λ q o. refl) (h ps))

    lost : ((ps : List Piece) → part_byte (await_symbol ps) b ≡ stop incomplete) → SymbolAt s a p (refused Incomplete q)
    lost h =
        let t = y.found.1.stands in
        (omega (arith, t.there), λ ps pr. there ps pr ∙ here_stop y.found.1 pr (await_symbol ps) incomplete (h ps))

    -- the bytes 60 and 61
    pub symbol_sign : 60 ≤ b → b ≤ 61 → SymbolAt s a p (Ok (b, q))
    symbol_sign h i = by (eqb b 60) refl
      where
        by : (x : Bool) → eqb b 60 ≡ x → SymbolAt s a p (Ok (b, q))
        by true e = got (λ ps. symbol_less ps b (eqb-true b 60 e))
        by false e = let n = eqb-false b 60 e in got (λ ps. symbol_equal ps b (omega (arith, n)))

    pub symbol_39 : b ≡ 39 → SymbolAt s a p (refused Incomplete q)
    symbol_39 h = lost (λ ps. symbol_quote ps b h)

    pub symbol_59 : b ≡ 59 → SymbolAt s a p (refused Incomplete q)
    symbol_59 h = lost (λ ps. symbol_end ps b h)

    pub symbol_on : (b ≡ 61 → ⊥) → (b ≡ 60 → ⊥) → (b ≡ 39 → ⊥) → (b ≡ 59 → ⊥) → Waits s a await_symbol p (q + 1)
    symbol_on h i j k ps pr = there ps pr ∙ here_on y.found.1 pr (await_symbol ps) (await_symbol ps) (λ q o. refl) (symbol_other ps b h i j k)

-- THE QUOTE

quote_skips : (f : Front) → skips (await_quote f) ≡ true
unfolding skips
quote_skips f = refl

quote_quote : (f : Front) (b : ℕ) → b ≡ 39 → part_byte (await_quote f) b ≡ on (replacement none f [])
unfolding part_byte_by quote_byte pick
quote_quote f b e = rw e refl

quote_end : (f : Front) (b : ℕ) → b ≡ 59 → part_byte (await_quote f) b ≡ stop incomplete
unfolding part_byte_by quote_byte pick
quote_end f b e = rw e refl

quote_other : (f : Front) (b : ℕ) → (b ≡ 39 → ⊥) → (b ≡ 59 → ⊥) → part_byte (await_quote f) b ≡ on (await_quote f)
unfolding part_byte_by quote_byte pick
quote_other f b g h = simp (ne_eqb _ _ g, ne_eqb _ _ h)

module _ (s : List ℕ) (a p v : ℕ) (g : Waits s a await_quote p v) (l : p ≤ v) where
  pub quote_none : {e : ReadError} → Passes s a v (Err e) → QuoteAt s a p (Err e)
  quote_none y = (y.found, λ h pr. g h pr ∙ y.answer (await_quote h) pr (quote_skips h))

  module _ {b q : ℕ} (y : Passes s a v (Ok (b, q))) where
    quoted : (f : Front) (pr : Prior) → run s a pr false p (await_quote f) ≡ run s a pr false q (await_quote f)
    quoted f pr = g f pr ∙ y.answer (await_quote f) pr (quote_skips f)

    pub quote_39 : b ≡ 39 → QuoteAt s a p (Ok q)
    quote_39 h =
        (omega (arith, y.found.0), rw h at y.found.1, λ f pr. quoted f pr ∙ here_on y.found.1 pr (await_quote f) (replacement none f []) (λ q o. refl) (quote_quote f b h))

    pub quote_59 : b ≡ 59 → QuoteAt s a p (Err (record { fault = Incomplete; place = q }))
    quote_59 h =
        let t = y.found.1.stands in
        (omega (arith, t.there), λ f pr. quoted f pr ∙ here_stop y.found.1 pr (await_quote f) incomplete (quote_end f b h))

    pub quote_on : (b ≡ 39 → ⊥) → (b ≡ 59 → ⊥) → Waits s a await_quote p (q + 1)
    quote_on h i f pr = quoted f pr ∙ here_on y.found.1 pr (await_quote f) (await_quote f) (λ q o. refl) (quote_other f b h i)

-- THE SYMBOL AND THE QUOTE

module _ {s : List ℕ} {a p b u : ℕ} (y : SymbolAt s a p (Ok (b, u))) where
  pub front_open : (e : ReadError) → QuoteAt s a (u + 1) (Err e) → FrontAt s a p (Err e)
  front_open e z = (z.0, λ ps pr. y.2 ps pr ∙ z.1 (record { pieces = ps; symbol = symbol_of b }) pr)

  pub front_made : {v : ℕ} → QuoteAt s a (u + 1) (Ok v) → FrontAt s a p (Ok (b, v))
  front_made z =
      (omega (arith, z.0, y.0), reached_behind z.1.stands, λ ps pr. y.2 ps pr ∙ z.2 (record { pieces = ps; symbol = symbol_of b }) pr)
