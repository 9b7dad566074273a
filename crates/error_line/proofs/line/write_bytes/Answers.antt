use Rattle.error_line.proofs.line.write_bytes.Goals as goal

pub returns : goal.returns
returns g c = record {
  written = c.write_all.ensures.written;
  refused = c.write_all.ensures.refused;
  never_falls = c.write_all.ensures.never_falls;
  cause = c.write_all.ensures.cause;
}
