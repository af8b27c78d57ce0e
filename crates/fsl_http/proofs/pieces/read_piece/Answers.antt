use Rattle.std.proofs.Common.{◌≡◌, ℕ, length, sym, arith}
use Rattle.std.proofs.lemmas.List.{length-append, length-take, length-take-le}
use Rattle.fsl_http.proofs.Broken.{broken_read, kept_read}
use Rattle.fsl_http.proofs.Steps.{piece_joined, piece_sends_nothing, failed_sends_nothing}
use Rattle.fsl_http.proofs.pieces.read_piece.Goals as goal

pub slice_bounds-piece-end : goal.slice_bounds-piece-end
slice_bounds-piece-end g c = let most = c.min-most.ensures in omega (arith, most)

pub slice_bounds-piece-end-in-Ok : goal.slice_bounds-piece-end-in-Ok
slice_bounds-piece-end-in-Ok g c = let fits = c.in-Ok.ensures.bound.0 in omega (arith, fits, length-append {A = ℕ})

pub slice_bounds-extend_from_slice-end : goal.slice_bounds-extend_from_slice-end
slice_bounds-extend_from_slice-end g c = let fits = c.in-Ok.ensures.bound.0 in sym (length-take-le _ _ (omega (arith, fits, length-append {A = ℕ})))

pub returns-then-is_err : goal.returns-then-is_err
returns-then-is_err g c =
    let read = c.in-Ok.ensures in record {
      ok = tt;
      err = read.cause.same;
      broken = kept_read _ _ c.in-Ok.count c.read.new.into read.moves;
      sent = piece_sends_nothing _ _ c.in-Ok.count c.read.new.into read.moves;
      stands = read.stands;
      later = read.cause.later;
      same = tt;
    }

pub returns-else-is_err : goal.returns-else-is_err
returns-else-is_err g c =
    let read = c.in-Ok.ensures in
    let kept = c.read.auto.into in
    let most = c.min-most.ensures in
    let size : length c.read.new.into ≡ c.min-most.result = omega (arith, kept, most, length-take {A = ℕ}) in record {
      ok = piece_joined _ _ c.read.new.into _ c.args.text.now.items _ _ c.args.room c.min-most.result c.in-Ok.count c.requires c.min-most.ensures size read.bound.0 c.if-is_err.ensures.negation
          c.extend_from_slice.ensures.items read.moves;
      err = tt;
      broken = tt;
      sent = piece_sends_nothing _ _ c.in-Ok.count c.read.new.into read.moves;
      stands = read.stands;
      later = read.cause.later;
      same = read.cause.same;
    }

pub returns-in-Err : goal.returns-in-Err
returns-in-Err g c =
    let read = c.in-Err.ensures in record {
      ok = tt;
      err = read.cause.failed;
      broken = broken_read _ _ read.moves;
      sent = failed_sends_nothing _ _ read.moves;
      stands = read.stands;
      later = read.cause.later;
      same = tt;
    }
