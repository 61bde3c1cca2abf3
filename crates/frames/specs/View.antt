-- What a draft, a frame, and the answers that hold them are to callers.
use Rattle.std.specs.Prelude.{◌≡◌, ℕ, Ok, Err, Result}
use Rattle.refused.specs.Refused.{Refused}
use Rattle.frames.specs.declared.refusal.Refusal.{Refusal}
use Rattle.frames.specs.declared.relation.Relation.{Relation}
use Rattle.frames.specs.declared.draft.Draft.{Draft}
use Rattle.frames.specs.declared.frame.Frame.{Frame}
use Rattle.frames.specs.Refused.{row}
use Rattle.frames.specs.Drafts.{Drafted, Framed}

-- S has the elements of R, and the pairs of the word w
abbrev pub Made : Relation → ℕ → Relation → Type 0
Made R w S = ◌≡◌ {A = ℕ × ℕ} (S.size, S.word) (R.size, w)

abbrev pub draft_of : Draft → Drafted
draft_of d = record { size = d.lines.size; lines = d.lines.word }

abbrev pub frame_of : Frame → Framed
frame_of f = record { size = f.order.size; order = f.order.word }

-- the answer to beginning a draft
abbrev pub begun_of : Result Draft Refusal → Result Drafted Refused
begun_of (Ok d) = Ok (draft_of d)
begun_of (Err f) = Err (row f)

-- the answer to closing one
abbrev pub closed_of : Result Frame (Draft × Refusal) → Result Framed (Drafted × Refused)
closed_of (Ok f) = Ok (frame_of f)
closed_of (Err e) = Err (draft_of e.0, row e.1)
