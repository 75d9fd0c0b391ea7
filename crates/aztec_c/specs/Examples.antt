-- Each field that C sees is the answer's field of the same name. No part of what the crate promises: `encoded_fields` and `decoded_fields`
-- say it, and here it stands field by field.
-- Assumes nothing.
use Rattle.std.specs.Prelude.{◌≡◌}
use Rattle.std.proofs.Math.Path.{refl}
use Rattle.encoder.specs.declared.Encoded.{Encoded}
use Rattle.decoder.specs.declared.Decoded.{Decoded}
use Rattle.aztec_c.specs.declared.AztecEncoded.{AztecEncoded}
use Rattle.aztec_c.specs.declared.AztecDecoded.{AztecDecoded}
use Rattle.aztec_c.specs.Fields.{encoded_fields, decoded_fields}

module _ (e : Encoded) where
  abbrev made : AztecEncoded
  made = encoded_fields e

  pub encoded-kept : (made.number ≡ e.number)
      × (made.shape ≡ e.shape)
      × (made.side ≡ e.side)
      × (made.data_words ≡ e.data_words)
      × (made.check_words ≡ e.check_words)
  unfolding encoded_fields
  encoded-kept = (refl, refl, refl, refl, refl)

module _ (d : Decoded) where
  abbrev read : AztecDecoded
  read = decoded_fields d

  pub decoded-kept : (read.number ≡ d.number)
      × (read.length ≡ d.length)
      × (read.shape ≡ d.shape)
      × (read.position ≡ d.position)
      × (read.unread ≡ d.unread)
      × (read.wrong ≡ d.wrong)
  unfolding decoded_fields
  decoded-kept = (refl, refl, refl, refl, refl, refl)
