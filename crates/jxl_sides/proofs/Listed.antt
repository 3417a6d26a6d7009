-- What the grammar lists of a file that is whole tells its side boxes: by the grammar's own definitions, box after box.
use mathlib.Core.Path.{◌≡◌, refl, sym, ap, ◌∙◌, subst}
use mathlib.Core.Bool.{Bool, true, false}
use mathlib.Core.List.{List, [], ◌∷◌, ◌++◌}
use Prim.Native.Nat.{ℕ, zero, suc, ◌+◌, ◌-◌, ◌%◌, ◌<◌, ◌≤◌}
use native.Mathlib.Omega.{arith}
use lib.Dec.{ltb, leb, eqb}
use lib.ListN.{length, take, drop, length-drop}
use lib.Seq.{drop-drop, drop-nil, drop_at, take-nil, take-length, take-add, length-take-le, get_or-take}
use borrow.Author.Tests.{ltb-false, leb-true, leb-false, le-leb, eqb-true, eqb-false, eq-eqb}
use Rattle.jxl_headers.specs.Bytes.{if, or, be32}
use Rattle.jxl_headers.specs.Header.{Header, short, bad, box, header_of}
use Rattle.jxl_headers.specs.Types.{jxlc, jxlp, brob, reserved}
use Rattle.jxl_headers.proofs.Header.{header_fits, header_short}
use Rattle.jxl_signatures.specs.Signature.{signature_of}
use Rattle.jxl_signatures.specs.declared.Signature.{Signature}
use Rattle.jxl_signatures.specs.declared.Signature.TheVariants as G
use Rattle.jxl_reach.specs.Reach.{under, less, to_end}
use Rattle.jxl_reach.specs.declared.BytesLeft.{BytesLeft}
use Rattle.jxl_reach.specs.declared.BytesLeft.TheVariants.{ToEnd, Bytes}
use Rattle.jxl_record.specs.declared.BitstreamKind.{BitstreamKind}
use Rattle.jxl_record.specs.declared.BitstreamKind.TheVariants as K
use Rattle.jxl_refusals.specs.declared.BoxRefusal.TheVariants.{JxlpTooSmall, WrongIndex, BrobTooSmall, ValidationFailed}
use Rattle.jxl_events.specs.Event.{payload_of}
use Rattle.jxl_events.specs.declared.ParseEvent.{ParseEvent}
use Rattle.jxl_events.specs.declared.ParseEvent.TheVariants as E
use Rattle.jxl_grammar.specs.End.{Close, missing, owes, nothing}
use Rattle.jxl_grammar.specs.Grammar.{Listing, want, wanted, breaks, then, unless_open, Codestreams, none, single, up_to, whole, Boxes, coded, no_code, code, closed, no_aux, aux, row, indexed, inner, jxlc_box, jxlp_box, boxed, between_boxes, headed, boxes, no_boxes, bare, signed, file}
use Rattle.jxl_base.proofs.Never.{never}
use Rattle.jxl_sides.specs.Sides.{Side, side, payload, behind, side_box, sides_behind, sides_from, sides_by, sides_of}
use Rattle.jxl_sides.specs.Telling.{Sides, astray, told, one_more, Move, adds, shuts, move_of, Where, outside, inside, met, over}

-- a listing that wants more where nothing is missing
abbrev pub Whole : Close → Type 0
Whole missing = ⊥
Whole (owes e) = Unit {0}
Whole nothing = Unit {0}

abbrev pub Ends : Listing → Type 0
Ends l = (l.stop ≡ want) × Whole l.close

-- the owed event
abbrev pub owing : Close → Where → Sides
owing missing w = astray
owing (owes e) w = met (move_of e) [] w over
owing nothing w = over w

no_row : (c : Codestreams) (w : Close) → Whole (unless_open c w) → unless_open c w ≡ w
no_row none w h = refl
no_row single w h = refl
no_row (up_to i) w h = absurd h
no_row whole w h = refl

-- none behind the end
pub no_sides : (m : ℕ) → sides_from m [] ≡ []
unfolding sides_from
no_sides zero = refl
no_sides (suc m) = rw (header_short [] (omega arith))

behind_none : (l : BytesLeft) → behind l [] ≡ []
behind_none ToEnd = refl
behind_none (Bytes n) = drop-nil n

payload_none : (l : BytesLeft) → payload l [] ≡ []
payload_none ToEnd = refl
payload_none (Bytes n) = take-nil n

owed_code : (l : BytesLeft) (tell : Bool) (a : ℕ) → Whole (no_code tell l a) → owing (no_code tell l a) outside ≡ told []
owed_code ToEnd true a h = refl
owed_code ToEnd false a h = refl
owed_code (Bytes n) tell a h = go (eqb n 0) h
  where
    go : (t : Bool) → Whole (if t (owes (E.Codestream a 0)) missing) → owing (if t (owes (E.Codestream a 0)) missing) outside ≡ told []
    go true h = refl
    go false h = absurd h

shut : (t : ℕ) (b : Bool) (bs : List ℕ) (next : Where → Sides) → met (shuts t) [] (inside t b bs) next ≡ one_more (side t b bs) (next outside)
shut t b bs next = rw (met, eq-eqb t t refl)

added : (t : ℕ) (b : Bool) (before bs : List ℕ) (next : Where → Sides) → met (adds t) bs (inside t b before) next ≡ next (inside t b (before ++ bs))
added t b before bs next = rw (met, eq-eqb t t refl)

owed_aux : (t : ℕ) (b : Bool) (l : BytesLeft) → Whole (no_aux t l) → owing (no_aux t l) (inside t b []) ≡ told (side t b [] ∷ [])
owed_aux t b ToEnd h = shut t b [] over
owed_aux t b (Bytes n) h = go (eqb n 0) h
  where
    go : (u : Bool) → Whole (if u (owes (E.AuxBoxEnd t)) missing) → owing (if u (owes (E.AuxBoxEnd t)) missing) (inside t b []) ≡ told (side t b [] ∷ [])
    go true h = shut t b [] over
    go false h = absurd h

-- a payload behind its first four bytes
behind_four_lem : (l : BytesLeft) (s : List ℕ) → under 4 l ≡ false → behind (less l 4) (drop 4 s) ≡ behind l s
behind_four_lem ToEnd s u = refl
behind_four_lem (Bytes n) s u =
    let sum : 4 + (n - 4) ≡ n = omega (arith, ltb-false n 4 u) in
    drop-drop (n - 4) 4 s ∙ ap (λ (k : ℕ). drop k s) sum

payload_four : (l : BytesLeft) (s : List ℕ) → under 4 l ≡ false → 4 ≤ length s → payload (less l 4) (drop 4 s) ≡ drop 4 (payload l s)
payload_four ToEnd s u h = refl
payload_four (Bytes n) s u h =
    let sum : n ≡ 4 + (n - 4) = omega (arith, ltb-false n 4 u) in
    sym (ap (λ (k : ℕ). drop 4 (take k s)) sum ∙ ap (drop 4) (take-add 4 (n - 4) s) ∙ drop_at (take 4 s) (take (n - 4) (drop 4 s)) 4 (length-take-le 4 s h))

word_there : (l : BytesLeft) (s : List ℕ) → under 4 l ≡ false → be32 (payload l s) 0 ≡ be32 s 0
word_there ToEnd s u = refl
word_there (Bytes n) s u =
    let four = ltb-false n 4 u in
    rw (get_or-take n s 0 0 (omega arith), get_or-take n s 1 0 (omega arith), get_or-take n s 2 0 (omega arith), get_or-take n s 3 0 (omega arith))

module _ (f : List ℕ) where
  -- events with the file's bytes at their places
  abbrev pub telling_at : List ParseEvent → (Where → Sides) → Where → Sides
  telling_at [] next w = next w
  telling_at (e ∷ es) next w = met (move_of e) (payload_of f e) w (telling_at es next)

  -- and what is owed behind them
  abbrev pub tells : Listing → Where → Sides
  tells l w = telling_at l.events (owing l.close) w

  part_at : (t a n : ℕ) (s : List ℕ) → s ≡ drop a f → 0 < length s → n ≤ length s → payload_of f (E.AuxBoxData t a n) ≡ take n s
  part_at t a n s d p h =
      let fits : a + n ≤ length f = omega (arith, length-drop a f, ap length d) in
      rw (le-leb (a + n) (length f) fits, d)

  -- what the boxes that follow tell
  abbrev Next : Boxes → ℕ → (List ℕ → List Side) → Type 0
  Next next m after = (c : Codestreams) (a : ℕ) (s : List ℕ) → s ≡ drop a f → length s ≤ m → Ends (next c a s) → tells (next c a s) outside ≡ told (after s)

  module _ (next : Boxes) (m : ℕ) (after : List ℕ → List Side) (none_after : after [] ≡ []) (follow : Next next m after) where
    tells_coded : (c : Codestreams) (l : BytesLeft) (a : ℕ) (s : List ℕ) → s ≡ drop a f → length s ≤ m → Ends (coded c l a s next)
        → tells (coded c l a s next) outside ≡ told (after (behind l s))
    tells_coded c ToEnd a s d h e = ap (λ (w : Close). owing w outside) (no_row c nothing e.1) ∙ ap told (sym none_after)
    tells_coded c (Bytes n) a s d h e = go (leb n (length s)) refl e
      where
        by : Bool → Listing
        by t = elim t [
          | true ↦ then (E.Codestream a n) (next c (a + n) (drop n s))
          | false ↦ then (E.Codestream a (length s)) (wanted missing (a + length s))
        ]

        go : (t : Bool) → leb n (length s) ≡ t → Ends (by t) → tells (by t) outside ≡ told (after (drop n s))
        go true k e = follow c (a + n) (drop n s) (ap (drop n) d ∙ drop-drop n a f) (omega (arith, length-drop n s)) e
        go false k e = absurd e.1

    tells_code : (c : Codestreams) (tell : Bool) (l : BytesLeft) (a : ℕ) (s : List ℕ) → s ≡ drop a f → length s ≤ m → Ends (code c tell l a s next)
        → tells (code c tell l a s next) outside ≡ told (after (behind l s))
    tells_code c tell l a [] d h e =
        let shut_row_lem = no_row c (no_code tell l a) e.1 in
        ap (λ (w : Close). owing w outside) shut_row_lem ∙ owed_code l tell a (subst Whole shut_row_lem e.1) ∙ ap told (sym (ap after (behind_none l) ∙ none_after))
    tells_code c true l a (x ∷ s) d h e = tells_coded c l a (x ∷ s) d h e
    tells_code c false l a (x ∷ s) d h e = tells_coded c l a (x ∷ s) d h e

    tells_closed : (c : Codestreams) (t : ℕ) (b : Bool) (bs : List ℕ) (a : ℕ) (s : List ℕ) → s ≡ drop a f → length s ≤ m → Ends (closed c t a s next)
        → tells (closed c t a s next) (inside t b bs) ≡ told (side t b bs ∷ after s)
    tells_closed c t b bs a [] d h e =
        ap (λ (w : Close). owing w (inside t b bs)) (no_row c (owes (E.AuxBoxEnd t)) e.1) ∙ shut t b bs over
        ∙ ap (λ (xs : List Side). told (side t b bs ∷ xs)) (sym none_after)
    tells_closed c t b bs a (x ∷ s) d h e = shut t b bs (tells (next c a (x ∷ s))) ∙ ap (one_more (side t b bs)) (follow c a (x ∷ s) d h e)

    tells_aux : (c : Codestreams) (t : ℕ) (b : Bool) (l : BytesLeft) (a : ℕ) (s : List ℕ) → s ≡ drop a f → length s ≤ m → Ends (aux c t l a s next)
        → tells (aux c t l a s next) (inside t b []) ≡ told (side t b (payload l s) ∷ after (behind l s))
    tells_aux c t b l a [] d h e =
        let shut_row_lem = no_row c (no_aux t l) e.1 in
        ap (λ (w : Close). owing w (inside t b [])) shut_row_lem ∙ owed_aux t b l (subst Whole shut_row_lem e.1)
        ∙ rw (payload_none l, behind_none l, none_after)
    tells_aux c t b ToEnd a (x ∷ s) d h e =
        let all : payload_of f (E.AuxBoxData t a (length (x ∷ s))) ≡ x ∷ s = part_at t a (length (x ∷ s)) (x ∷ s) d (omega arith) (omega arith) ∙ take-length (x ∷ s) in
        added t b [] (payload_of f (E.AuxBoxData t a (length (x ∷ s)))) (owing (unless_open c (owes (E.AuxBoxEnd t))))
        ∙ ap (λ (w : Close). owing w (inside t b (payload_of f (E.AuxBoxData t a (length (x ∷ s)))))) (no_row c (owes (E.AuxBoxEnd t)) e.1)
        ∙ shut t b (payload_of f (E.AuxBoxData t a (length (x ∷ s)))) over
        ∙ rw (all, none_after)
    tells_aux c t b (Bytes n) a (x ∷ s) d h e = go (eqb n 0) refl (leb n (length (x ∷ s))) refl e
      where
        by : Bool → Bool → Listing
        by u v = elim u [
          | true ↦ closed c t a (x ∷ s) next
          | false ↦ elim v [
            | true ↦ then (E.AuxBoxData t a n) (closed c t (a + n) (drop n (x ∷ s)) next)
            | false ↦ then (E.AuxBoxData t a (length (x ∷ s))) (wanted missing (a + length (x ∷ s)))
          ]
        ]

        go : (u : Bool) → eqb n 0 ≡ u → (v : Bool) → leb n (length (x ∷ s)) ≡ v → Ends (by u v)
            → tells (by u v) (inside t b []) ≡ told (side t b (take n (x ∷ s)) ∷ after (drop n (x ∷ s)))
        go true z v k e = tells_closed c t b [] a (x ∷ s) d h e ∙ rw (eqb-true n 0 z)
        go false z true k e =
            let part : payload_of f (E.AuxBoxData t a n) ≡ take n (x ∷ s) = part_at t a n (x ∷ s) d (omega arith) (leb-true n (length (x ∷ s)) k) in
            added t b [] (payload_of f (E.AuxBoxData t a n)) (tells (closed c t (a + n) (drop n (x ∷ s)) next))
            ∙ tells_closed c t b (payload_of f (E.AuxBoxData t a n)) (a + n) (drop n (x ∷ s)) (ap (drop n) d ∙ drop-drop n a f) (omega (arith, length-drop n (x ∷ s))) e
            ∙ ap (λ (bs : List ℕ). told (side t b bs ∷ after (drop n (x ∷ s)))) part
        go false z false k e = absurd e.1

    tells_indexed : (i : ℕ) (l : BytesLeft) (a : ℕ) (s : List ℕ) → under 4 l ≡ false → s ≡ drop a f → length s ≤ m → Ends (indexed i l a s next)
        → tells (indexed i l a s next) outside ≡ told (after (behind l s))
    tells_indexed i l a s u d h e = go (ltb (length s) 4) (eqb (be32 s 0 % 0x80000000) i) e
      where
        by : Bool → Bool → Listing
        by x y = elim x [
          | true ↦ wanted missing a
          | false ↦ elim y [
            | true ↦ code (row (leb 0x80000000 (be32 s 0)) i) (to_end l) (less l 4) (a + 4) (drop 4 s) next
            | false ↦ breaks (WrongIndex (be32 s 0 % 0x80000000) i) (a + 4)
          ]
        ]

        go : (x y : Bool) → Ends (by x y) → tells (by x y) outside ≡ told (after (behind l s))
        go true y e = absurd e.1
        go false true e =
            tells_code (row (leb 0x80000000 (be32 s 0)) i) (to_end l) (less l 4) (a + 4) (drop 4 s) (ap (drop 4) d ∙ drop-drop 4 a f) (omega (arith, length-drop 4 s)) e
            ∙ ap (λ (r : List ℕ). told (after r)) (behind_four_lem l s u)
        go false false e = absurd e.1

    tells_inner : (c : Codestreams) (l : BytesLeft) (a : ℕ) (s : List ℕ) → under 4 l ≡ false → s ≡ drop a f → length s ≤ m → Ends (inner c l a s next)
        → tells (inner c l a s next) outside ≡ told (side (be32 (payload l s) 0) true (drop 4 (payload l s)) ∷ after (behind l s))
    tells_inner c l a s u d h e = go (ltb (length s) 4) refl (reserved (be32 s 0)) e
      where
        by : Bool → Bool → Listing
        by x y = elim x [
          | true ↦ wanted missing a
          | false ↦ elim y [
            | true ↦ breaks ValidationFailed (a + 4)
            | false ↦ then (E.AuxBoxStart (be32 s 0) true (to_end l)) (aux c (be32 s 0) (less l 4) (a + 4) (drop 4 s) next)
          ]
        ]

        go : (x : Bool) → ltb (length s) 4 ≡ x → (y : Bool) → Ends (by x y)
            → tells (by x y) outside ≡ told (side (be32 (payload l s) 0) true (drop 4 (payload l s)) ∷ after (behind l s))
        go true k y e = absurd e.1
        go false k true e = absurd e.1
        go false k false e =
            let bytes = payload_four l s u (ltb-false (length s) 4 k) in
            tells_aux c (be32 s 0) true (less l 4) (a + 4) (drop 4 s) (ap (drop 4) d ∙ drop-drop 4 a f) (omega (arith, length-drop 4 s)) e
            ∙ (λ i. told (side (sym (word_there l s u) i) true (bytes i) ∷ after (behind_four_lem l s u i)))

    tells_jxlc : (c : Codestreams) (l : BytesLeft) (a : ℕ) (s : List ℕ) → s ≡ drop a f → length s ≤ m → Ends (jxlc_box c l a s next)
        → tells (jxlc_box c l a s next) outside ≡ told (after (behind l s))
    tells_jxlc none l a s d h e = tells_code single (to_end l) l a s d h e
    tells_jxlc single l a s d h e = absurd e.1
    tells_jxlc (up_to i) l a s d h e = absurd e.1
    tells_jxlc whole l a s d h e = absurd e.1

    tells_jxlp : (c : Codestreams) (l : BytesLeft) (a : ℕ) (s : List ℕ) → under 4 l ≡ false → s ≡ drop a f → length s ≤ m → Ends (jxlp_box c l a s next)
        → tells (jxlp_box c l a s next) outside ≡ told (after (behind l s))
    tells_jxlp none l a s u d h e = tells_indexed 0 l a s u d h e
    tells_jxlp single l a s u d h e = absurd e.1
    tells_jxlp (up_to i) l a s u d h e = tells_indexed (i + 1) l a s u d h e
    tells_jxlp whole l a s u d h e = absurd e.1

    tells_boxed : (c : Codestreams) (t : ℕ) (l : BytesLeft) (a : ℕ) (s : List ℕ) → s ≡ drop a f → length s ≤ m → Ends (boxed c t l a s next)
        → tells (boxed c t l a s next) outside ≡ told (side_box t (payload l s) ++ after (behind l s))
    tells_boxed c t l a s d h e = go (eqb t jxlc) (eqb t jxlp) (eqb t brob) (under 4 l) refl e
      where
        by : Bool → Bool → Bool → Bool → Listing
        by u v w x = elim u [
          | true ↦ jxlc_box c l a s next
          | false ↦ elim v [
            | true ↦ elim x [ true ↦ breaks JxlpTooSmall a | false ↦ jxlp_box c l a s next ]
            | false ↦ elim w [
              | true ↦ elim x [ true ↦ breaks BrobTooSmall a | false ↦ inner c l a s next ]
              | false ↦ then (E.AuxBoxStart t false (to_end l)) (aux c t l a s next)
            ]
          ]
        ]

        sides : Bool → Bool → Bool → List Side
        sides u v w = if (or u v) [] (if w (side (be32 (payload l s) 0) true (drop 4 (payload l s)) ∷ []) (side t false (payload l s) ∷ []))

        go : (u v w x : Bool) → under 4 l ≡ x → Ends (by u v w x) → tells (by u v w x) outside ≡ told (sides u v w ++ after (behind l s))
        go true v w x k e = tells_jxlc c l a s d h e
        go false true w true k e = absurd e.1
        go false true w false k e = tells_jxlp c l a s k d h e
        go false false true true k e = absurd e.1
        go false false true false k e = tells_inner c l a s k d h e
        go false false false x k e = tells_aux c t false l a s d h e

  -- between two boxes
  tells_between : (c : Codestreams) (a : ℕ) (s : List ℕ) → Ends (wanted (between_boxes c s) a) → tells (wanted (between_boxes c s) a) outside ≡ told []
  tells_between c a [] e = ap (λ (w : Close). owing w outside) (no_row c nothing e.1)
  tells_between c a (x ∷ s) e = absurd e.1

  tells_boxes : (m : ℕ) → Next (boxes m) m (sides_from m)
  unfolding boxes sides_from
  tells_boxes zero c a s d h e = tells_between c a s e
  tells_boxes (suc m) c a s d h e = go (tells_boxes m) (header_of s) refl e
    where
      go : Next (boxes m) m (sides_from m) → (g : Header) → header_of s ≡ g → Ends (headed g c a s (boxes m)) → tells (headed g c a s (boxes m)) outside ≡ told (sides_behind g s (sides_from m))
      go follow short k e = tells_between c a s e
      go follow (bad r) k e = absurd e.1
      go follow (box t l n) k e =
          let fits = header_fits s k in
          tells_boxed (boxes m) m (sides_from m) (no_sides m) follow c t l (a + n) (drop n s) (ap (drop n) d ∙ drop-drop n a f) (omega (arith, fits.0, fits.1, length-drop n s)) e

-- a whole file, within the limit
pub tells_file : (s : List ℕ) → Ends (file s) → tells s (file s) outside ≡ told (sides_of s)
unfolding file
tells_file s e = go (signature_of s) e
  where
    bare_file : (k : BitstreamKind) → Ends (bare none k 0 s) → tells s (bare none k 0 s) outside ≡ told []
    bare_file k e = tells_code s no_boxes (length s) (λ r. []) refl (λ c a r d h e. absurd e.1) none true ToEnd 0 s refl (omega arith) e

    go : (g : Signature) → Ends (signed g (length s) none 0 s) → tells s (signed g (length s) none 0 s) outside ≡ told (sides_by g s)
    go G.Bare e = bare_file K.BareCodestream e
    go G.Container e = tells_boxes s (length s) none 12 (drop 12 s) refl (omega (arith, length-drop 12 s)) e
    go G.TooShort e = absurd e.1
    go G.Neither e = bare_file K.Invalid e
