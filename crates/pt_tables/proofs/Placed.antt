-- A text and digits that are put before what a buffer ends with.
use Rattle.std.proofs.Common.{◌≡◌, ℕ, ◌+◌, ◌-◌, ◌≤◌, ◌<◌, ◌^◌, List, ◌++◌, append-nil, drop, take, length, ap, sym, ◌∙◌, arith, length-append}
use Rattle.std.specs.Fmt.{decimal}
use Rattle.std.proofs.lemmas.Fmt.{length-decimal-le}
use Rattle.std.proofs.lemmas.List.{drop_all, drop_at, drop-append-le, drop-drop, length-drop, length-take-le, take_all}
use borrow.Rule.Slice.PartMut.{mid_of, put_mid}

-- a part of a buffer is overwritten by a text: what the buffer holds from there on
pub placed : (from k : ℕ) (bytes text : List ℕ) → from ≤ length bytes → drop from (put_mid from k bytes text) ≡ text ++ drop (from + k) bytes
placed from k bytes text within =
    drop_at (take from bytes) (text ++ drop k (drop from bytes)) from (omega (arith, length-take-le from bytes within, within))
    ∙ ap (λ rest. text ++ rest) (drop-drop k from bytes)

-- the digits of a number are at most 20 bytes
pub digits_fit : (n : ℕ) (old new : List ℕ) → n < 2 ^ 64 → new ≡ decimal n ++ old → length new ≤ length old + 20
digits_fit n old new fits is =
    let digits = length-decimal-le 20 n (omega arith) (omega (arith, fits)) fits in
    omega (arith, ap length is, length-append (decimal n) old, digits)

-- a part of a buffer is overwritten by the end of another buffer: what it holds from some place in that part on
overlaid : (from n k m : ℕ) (bytes other text : List ℕ) → from ≤ length bytes → text ≡ drop k other → k + m ≤ length other → drop (from + m) (put_mid from n bytes text) ≡ drop (k + m) other ++ drop (from + n) bytes
overlaid from n k m bytes other text within is few =
    sym (drop-drop m from (put_mid from n bytes text))
    ∙ ap (drop m) (placed from n bytes text within)
    ∙ drop-append-le m text (drop (from + n) bytes) (omega (arith, few, ap length is, length-drop k other))
    ∙ ap (λ t. drop m t ++ drop (from + n) bytes) is
    ∙ ap (λ t. t ++ drop (from + n) bytes) (drop-drop m k other)

-- the last 64 bytes of a buffer
last_part : (other : List ℕ) → length other ≡ 128 → mid_of 64 64 other ≡ drop 64 other
last_part other same = take_all 64 (drop 64 other) (omega (arith, same, length-drop 64 other))

-- the last 64 bytes of a buffer become those of another
pub copied : (start : ℕ) (bytes other text : List ℕ) → length bytes ≡ 128 → length other ≡ 128 → 64 ≤ start → start ≤ 128 → text ≡ mid_of 64 64 other → drop start (put_mid 64 64 bytes text) ≡ drop start other
copied start bytes other text size same late within is =
    let back : 64 + (start - 64) ≡ start = omega (arith, late) in
    ap (λ n. drop n (put_mid 64 64 bytes text)) (sym back)
    ∙ overlaid 64 64 64 (start - 64) bytes other text (omega (arith, size)) (is ∙ last_part other same) (omega (arith, late, within, same))
    ∙ ap (λ n. drop n other ++ drop (64 + 64) bytes) back
    ∙ ap (λ rest. drop start other ++ rest) (drop_all (64 + 64) bytes (omega (arith, size)))
    ∙ append-nil (drop start other)

-- the last 64 bytes of a buffer are put before what another ends with
pub copied_before : (end start : ℕ) (bytes other text : List ℕ) → length bytes ≡ 128 → length other ≡ 128 → 64 ≤ end → end ≤ 128 → 64 ≤ start → start ≤ 128 → text ≡ mid_of 64 64 other
    → drop (end - 64 + (start - 64)) (put_mid (end - 64) (end - (end - 64)) bytes text) ≡ drop start other ++ drop end bytes
copied_before end start bytes other text size same far near late within is =
    let back : 64 + (start - 64) ≡ start = omega (arith, late) in
    let seam : end - 64 + (end - (end - 64)) ≡ end = omega (arith, far) in
    overlaid (end - 64) (end - (end - 64)) 64 (start - 64) bytes other text (omega (arith, size, near)) (is ∙ last_part other same) (omega (arith, late, within, same))
    ∙ ap (λ n. drop n other ++ drop (end - 64 + (end - (end - 64))) bytes) back
    ∙ ap (λ n. drop start other ++ drop n bytes) seam
