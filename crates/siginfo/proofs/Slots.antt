-- Laws of a record's bytes, and of a row of slots of any number. Assumes nothing.
use mathlib.Core.Path.{◌≡◌, refl, sym, ap, ap₂, ◌∙◌}
use mathlib.Core.List.{List, [], ◌++◌}
use Prim.Native.Nat.{ℕ, zero, suc, ◌+◌, ◌*◌, ◌≤◌, ◌<◌}
use native.Mathlib.Nat.{suc-mul, zero-mul}
use native.Mathlib.Omega.{arith}
use lib.Dec.{lit<}
use lib.ListN.{length, get_or, take, drop, set, length-drop, take-append-drop}
use lib.Seq.{sets, drop-drop, take_all, length-take-le}
use Rattle.limits.specs.Limits.{record_process, record_thread, record_signal, record_code, record_sender, record_uid}
use Rattle.limits.specs.Limits.{record_value, record_bytes}
use Rattle.lists.specs.Lists.{All}
use Rattle.lists.specs.Rows.{row, rows, flat}
use Rattle.lists.proofs.Lists.{All-every, All-imp, All-take, All-drop}
use Rattle.lists.proofs.Rows.{take-drop-take, length-rows, get_d_rows, rows-put, rows-flat, length-flat, nil-of}
use Rattle.types.specs.declared.Siginfo.{Siginfo}
use Rattle.types.specs.Values.{no_siginfo}
use Rattle.siginfo.specs.Bytes.{u32_bytes, u64_bytes, le, encode, Bytes, siginfo_of, bytes_of, Fits, slots, slot_bytes}
use Rattle.siginfo.proofs.Numbers.{le-encode, encode-part, le-part, then-sets}

-- ---- one record

pub length-bytes_of : (r : Siginfo) → length (bytes_of r) ≡ record_bytes
unfolding bytes_of encode
length-bytes_of r = refl

pub siginfo_of-bytes_of : (r : Siginfo) → Fits r → siginfo_of (bytes_of r) ≡ r
unfolding siginfo_of bytes_of encode
siginfo_of-bytes_of r f =
    rw (
      le-encode u32_bytes r.process f.process,
      le-encode u32_bytes r.thread f.thread,
      le-encode u32_bytes r.signal f.signal,
      le-encode u32_bytes r.code f.code,
      le-encode u32_bytes r.sender f.sender,
      le-encode u32_bytes r.uid f.uid,
      le-encode u64_bytes r.value f.value,
    )

-- a part and what is behind it
pub part-rest : (l : List ℕ) (at n : ℕ) → take n (drop at l) ++ drop (at + n) l ≡ drop at l
part-rest l at n = rw (← drop-drop n at l) (take-append-drop n (drop at l))

pub bytes_of-siginfo_of : (l : List ℕ) → length l ≡ record_bytes → Bytes l → bytes_of (siginfo_of l) ≡ l
unfolding siginfo_of bytes_of
bytes_of-siginfo_of l e h =
    rw (
      encode-part l record_process u32_bytes h (omega arith),
      encode-part l record_thread u32_bytes h (omega arith),
      encode-part l record_signal u32_bytes h (omega arith),
      encode-part l record_code u32_bytes h (omega arith),
      encode-part l record_sender u32_bytes h (omega arith),
      encode-part l record_uid u32_bytes h (omega arith),
      encode-part l record_value u64_bytes h (omega arith),
      take_all u64_bytes (drop record_value l) (rw length-drop (omega arith)),
      part-rest l record_uid u32_bytes,
      part-rest l record_sender u32_bytes,
      part-rest l record_code u32_bytes,
      part-rest l record_signal u32_bytes,
      part-rest l record_thread u32_bytes,
      part-rest l record_process u32_bytes,
    )

-- a record that was read fits
pub fits-siginfo_of : (l : List ℕ) → Bytes l → Fits (siginfo_of l)
unfolding siginfo_of
fits-siginfo_of l h =
    record {
      process = le-part l record_process u32_bytes h;
      thread = le-part l record_thread u32_bytes h;
      signal = le-part l record_signal u32_bytes h;
      code = le-part l record_code u32_bytes h;
      sender = le-part l record_sender u32_bytes h;
      uid = le-part l record_uid u32_bytes h;
      value = le-part l record_value u64_bytes h;
    }

pub fits-no_siginfo : Fits no_siginfo
fits-no_siginfo =
    record {
      process = lit< tt;
      thread = lit< tt;
      signal = lit< tt;
      code = lit< tt;
      sender = lit< tt;
      uid = lit< tt;
      value = lit< tt;
    }

-- ---- what code reads and stores in a slot

-- a field of a slot is a part of the whole
in_row : (b : List ℕ) (slot at n : ℕ) → at + n ≤ record_bytes
    → take n (drop at (row record_bytes b slot)) ≡ take n (drop (slot * record_bytes + at) b)
in_row b slot at n h =
    take-drop-take n at record_bytes (drop (slot * record_bytes) b) h
    ∙ ap (take n) (drop-drop at (slot * record_bytes) b)

module _ (b : List ℕ) (slot : ℕ) where
  abbrev field : ℕ → ℕ → ℕ
  field at n = le (take n (drop (slot * record_bytes + at) b))

  pub read-slot : (p t s c d u v : ℕ) → p ≡ field record_process u32_bytes → t ≡ field record_thread u32_bytes
      → s ≡ field record_signal u32_bytes
      → c ≡ field record_code u32_bytes → d ≡ field record_sender u32_bytes → u ≡ field record_uid u32_bytes
      → v ≡ field record_value u64_bytes
      → ◌≡◌ {A = Siginfo} (record { process = p; thread = t; signal = s; code = c; sender = d; uid = u; value = v })
      (siginfo_of (row record_bytes b slot))
  unfolding siginfo_of
  read-slot p t s c d u v e₀ e₁ e₂ e₃ e₄ e₅ e₆ =
      rw (
        in_row b slot record_process u32_bytes (omega arith),
        in_row b slot record_thread u32_bytes (omega arith),
        in_row b slot record_signal u32_bytes (omega arith),
        in_row b slot record_code u32_bytes (omega arith),
        in_row b slot record_sender u32_bytes (omega arith),
        in_row b slot record_uid u32_bytes (omega arith),
        in_row b slot record_value u64_bytes (omega arith),
      )
      (cc)

pub write-slot : {b₁ b₂ b₃ b₄ b₅ b₆ b₇ : List ℕ} (b : List ℕ) (at : ℕ) (r : Siginfo)
    → b₁ ≡ sets b (at + record_process) (encode u32_bytes r.process)
    → b₂ ≡ sets b₁ (at + record_thread) (encode u32_bytes r.thread)
    → b₃ ≡ sets b₂ (at + record_signal) (encode u32_bytes r.signal)
    → b₄ ≡ sets b₃ (at + record_code) (encode u32_bytes r.code)
    → b₅ ≡ sets b₄ (at + record_sender) (encode u32_bytes r.sender)
    → b₆ ≡ sets b₅ (at + record_uid) (encode u32_bytes r.uid)
    → b₇ ≡ sets b₆ (at + record_value) (encode u64_bytes r.value) → b₇ ≡ sets b at (bytes_of r)
unfolding bytes_of encode
write-slot b at r e₁ e₂ e₃ e₄ e₅ e₆ e₇ =
    let s₁ : List ℕ = encode u32_bytes r.process in
    let s₂ : List ℕ = s₁ ++ encode u32_bytes r.thread in
    let s₃ : List ℕ = s₂ ++ encode u32_bytes r.signal in
    let s₄ : List ℕ = s₃ ++ encode u32_bytes r.code in
    let s₅ : List ℕ = s₄ ++ encode u32_bytes r.sender in
    let s₆ : List ℕ = s₅ ++ encode u32_bytes r.uid in
    then-sets s₆ (encode u64_bytes r.value) b at (at + record_value) refl
    (then-sets s₅ (encode u32_bytes r.uid) b at (at + record_uid) refl
    (then-sets s₄ (encode u32_bytes r.sender) b at (at + record_sender) refl
    (then-sets s₃ (encode u32_bytes r.code) b at (at + record_code) refl
    (then-sets s₂ (encode u32_bytes r.signal) b at (at + record_signal) refl
    (then-sets s₁ (encode u32_bytes r.thread) b at (at + record_thread) refl
    (then-sets [] s₁ b at (at + record_process) refl refl e₁) e₂) e₃) e₄) e₅) e₆) e₇

-- ---- a row of slots

pub length-slots : (n : ℕ) (b : List ℕ) → length (slots n b) ≡ n
unfolding slots
length-slots n b = length-rows siginfo_of record_bytes n b

pub slot_at : (n : ℕ) (b : List ℕ) (i : ℕ) (d : Siginfo) → i < n
    → get_or (slots n b) i d ≡ siginfo_of (row record_bytes b i)
unfolding slots
slot_at n b i d h = get_d_rows siginfo_of record_bytes n b i d h

-- a record stored in its slot
pub slot-put : (n : ℕ) (b : List ℕ) (i : ℕ) (r : Siginfo) → i < n → i * record_bytes + record_bytes ≤ length b → Fits r
    → slots n (sets b (i * record_bytes) (bytes_of r)) ≡ set (slots n b) i r
unfolding slots
slot-put n b i r h k f =
    rows-put siginfo_of record_bytes n b i (bytes_of r) h k (length-bytes_of r)
    ∙ ap (set (rows siginfo_of record_bytes n b) i) (siginfo_of-bytes_of r f)

pub fits-slots : (n : ℕ) (b : List ℕ) → Bytes b → All Fits (slots n b)
unfolding slots rows
fits-slots zero b h = tt
fits-slots (suc n) b h = (
  fits-siginfo_of (take record_bytes b) (All-take (λ x. x < 256) record_bytes b h),
  fits-slots n (drop record_bytes b) (All-drop (λ x. x < 256) record_bytes b h),
)

pub length-slot_bytes : (rs : List Siginfo) → length (slot_bytes rs) ≡ length rs * record_bytes
unfolding slot_bytes
length-slot_bytes rs =
    length-flat bytes_of record_bytes rs (All-every (λ r. length (bytes_of r) ≡ record_bytes) length-bytes_of rs)

-- bytes to records and back
pub slot_bytes-slots : (n : ℕ) (b : List ℕ) → length b ≡ n * record_bytes → Bytes b → slot_bytes (slots n b) ≡ b
unfolding slot_bytes slots rows flat
slot_bytes-slots zero b e h = sym (nil-of b (e ∙ zero-mul record_bytes))
slot_bytes-slots (suc n) b e h =
    let k : length b ≡ n * record_bytes + record_bytes = e ∙ suc-mul n record_bytes in
    let here : bytes_of (siginfo_of (take record_bytes b)) ≡ take record_bytes b =
    bytes_of-siginfo_of (take record_bytes b) (length-take-le record_bytes b (omega arith))
    (All-take (λ x. x < 256) record_bytes b h) in
    let rest : slot_bytes (slots n (drop record_bytes b)) ≡ drop record_bytes b =
    slot_bytes-slots n (drop record_bytes b) (rw length-drop (omega arith)) (All-drop (λ x. x < 256) record_bytes b h)
    in
    ap₂ (λ x y. x ++ y) here rest ∙ take-append-drop record_bytes b

-- records to bytes and back
pub slots-slot_bytes : (rs : List Siginfo) → All Fits rs → slots (length rs) (slot_bytes rs) ≡ rs
unfolding slot_bytes slots
slots-slot_bytes rs f =
    rows-flat siginfo_of bytes_of record_bytes rs
    (All-imp Fits (λ r. (length (bytes_of r) ≡ record_bytes) × (siginfo_of (bytes_of r) ≡ r))
    (λ r k. (length-bytes_of r, siginfo_of-bytes_of r k)) rs f)
