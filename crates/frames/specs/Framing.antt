-- What is always true of a frame: its meets and joins are the bounds in its order.
use Rattle.std.specs.Prelude.{ℕ, ◌<◌, false, Decides}
use Rattle.free_lattice.specs.Lattices.{Below}
use Rattle.free_lattice.specs.Bounds.{Order, Bounded}
use Rattle.free_lattice.proofs.Bounds.{below_of_le, le_of_below}
use Rattle.frames.specs.declared.frame.Frame.{Frame}
use Rattle.frames.specs.Order.{le, Le, frame}
use Rattle.frames.specs.View.{frame_of}
use Rattle.frames.specs.Bounds.{frame_bounded}

ordered : (f : Frame) → Order (λ x. x < f.order.size) (Le (frame_of f))
ordered f =
    record {
      reflexive = f.reflexive;
      transitive = λ a b c p q r ab bc. f.transitive a c (b, p, q, r, ab, bc);
      antisymmetric = λ a b p q ab ba. f.antisymmetric a b (p, q, ab, ba);
    }

pub bounded : (f : Frame) → Bounded (frame (frame_of f)) (Le (frame_of f))
bounded f =
    frame_bounded f.order.size f.order.word (Le (frame_of f)) (λ a b p q. (λ e. e, λ e. e)) (ordered f) (λ up a b p q. f.complete a b (up, p, q))

-- the order decides what is below in the lattice
pub compares : (f : Frame) (a b : ℕ) → a < f.order.size → b < f.order.size → Decides (le f.order.word false a b) (Below (frame (frame_of f)) a b)
compares f a b p q = (below_of_le (bounded f) a b p q, le_of_below (bounded f) a b p q)
