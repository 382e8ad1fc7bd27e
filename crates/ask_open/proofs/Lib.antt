mod Cases
mod Going
mod Knowing
